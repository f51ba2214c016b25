-- Calls: what their steps show, where inlined methods show what methods do.
use Rattle.std.proofs.Common.{◌≡◌, ℕ, ◌+◌, ◌<◌, ◌≤◌, Bool, true, false, List, [], ◌∷◌, ◌++◌, Option, Some, None, refl, sym, ◌∙◌, ap, subst, arith}
use Rattle.std.specs.Prelude.{◌||◌, option_and_then, map}
use Rattle.std.proofs.lemmas.Bool.{false≢true}
use Rattle.taco_unit.specs.declared.kind.Kind.{Kind}
use Rattle.taco_unit.specs.declared.kind.Kind.TheVariants as kind
use Rattle.heap_core.specs.declared.value.Value.{Value}
use Rattle.heap_core.specs.declared.value.Value.TheVariants.{Null, Obj, Num, Flag}
use Rattle.heap_core.specs.Posed.{Posed}
use Rattle.heap_core.specs.Exec.{Memory, Ends, Gives, Throws, Leaves, Frame, Code, then_with, on_object, gives_in}
use Rattle.dyn_core.specs.declared.prog.Act.TheVariants.{Copy}
use Rattle.dyn_core.specs.declared.state.DynState.{DynState}
use Rattle.dyn_core.specs.States.{var_at}
use Rattle.dyn_core.proofs.Vars.{var_set}
use Rattle.dyn_plan.specs.declared.plan.Plan.{Plan}
use Rattle.dyn_plan.specs.declared.plan.Plan.TheVariants as l
use Rattle.dyn_plan.specs.Plans.{go}
use Rattle.dyn_plan.specs.Places.{Ground, Spots, width, slot, behind}
use Rattle.dyn_plan.specs.Guards.{Lowered, guarded, through}
use Rattle.dyn_plan.specs.Expressions.{Low}
use Rattle.dyn_plan.proofs.PlanForms.{next_do}
use Rattle.dyn_plan.proofs.Shown.{set, IsKept, kept_set, kept_same, kept_then, Remembers, ThisIs, HasFlags, IsFrame, IsOpen, IsReady, Each}
use Rattle.dyn_plan.proofs.Shown.{HasGiven, Shows, weaker, shows_from, then_shows, ready_on, go_one, go_append, Skips, skips_both, guard_skips, guard_opens}
use Rattle.dyn_plan.proofs.NullTests.{through_shows}
use Rattle.heap_core.proofs.FieldLaws.{none_some, some_same}
use Rattle.heap_core.specs.Exec.{Run, in_order, target_of, entered}
use Rattle.dyn_plan.specs.Places.{first_kind, later_kinds}
use Rattle.dyn_plan.specs.Expressions.{Inline, Arguments, Target, kind_or, class_of_method, kinds_of_params}
use Rattle.dyn_plan.specs.Expressions.{kind_of_result, arguments_low, target_low, entered_low, can_be_null, with_value_at, with_target}
use Rattle.dyn_plan.proofs.Shown.{open_on, skips_none}
use Rattle.dyn_plan.proofs.ExprShown.{behind_above, or_left, or_right, Claim, operand_then, given_from}

-- ## what a call gives

-- an end without a value, where one is wanted, leaves the scope
abbrev pub as_wanted : Bool → Ends (Option Value) → Ends (Option Value)
as_wanted false e = e
as_wanted true (Gives (Some v) m) = Gives (Some v) m
as_wanted true (Gives None m) = Leaves
as_wanted true (Throws m) = Throws m
as_wanted true Leaves = Leaves

-- the value at x, where the method gives one
abbrev pub InlineResult : Bool → ℕ → ℕ → DynState → Option Value → Memory → DynState → Type 0
InlineResult w b x s (Some v) m t = HasGiven b x s v m t
InlineResult w b x s None m t = (w ≡ false) × Remembers m t × IsKept b s t

-- the same, where it is wanted
abbrev pub CallResult : Bool → ℕ → ℕ → DynState → Option Value → Memory → DynState → Type 0
CallResult true b x s (Some v) m t = HasGiven b x s v m t
CallResult true b x s None m t = ⊥
CallResult false b x s o m t = Remembers m t × IsKept b s t

-- the inlined method shows what the method does, from each state in which the caller is not done
pub record Inlines (p : Posed) (n : ℕ) (g : Ground) (run : Run) (inline : Inline) : Type 0 where
  pub shows : (method : ℕ) (this : Option ℕ) (args : List ℕ) (w : Bool) (f : Spots) (b start : ℕ) (s : DynState) (m : Memory) (v : Value) (vs : List Value)
      → HasFlags g start f → f.base ≤ b → IsOpen g f m s → ThisIs this v s → ((x : ℕ) → this ≡ Some x → x < b) → Each (λ x. x < b) args → map (var_at s.vars) args ≡ vs
      → Shows (inline method this args w f b).throws start f s (InlineResult w b (inline method this args w f b).place s) (as_wanted w (run method v vs m))
      (go p n (inline method this args w f b).steps s)

-- a lowered call
pub record CallClaim (p : Posed) (n : ℕ) (g : Ground) (low : Bool → Spots → ℕ → Lowered) (c : Frame → Memory → Ends (Option Value)) : Type 0 where
  pub near : (w : Bool) (f : Spots) (b : ℕ) → (low w f b).place < b + width g
  pub shows : (w : Bool) (start : ℕ) (f : Spots) (b : ℕ) (s : DynState) (fr : Frame) (m : Memory)
      → IsFrame g start f → f.base ≤ b → IsReady g f fr m s
      → Shows (low w f b).throws start f s (CallResult w b (low w f b).place s) (as_wanted w (c fr m)) (go p n (low w f b).steps s)

pub call_gives : (t : Bool) (start b x : ℕ) (f : Spots) (s : DynState) (e : Ends (Option Value)) (o : Option DynState)
    → Shows t start f s (CallResult true b x s) (as_wanted true e) o → Shows t start f s (HasGiven b x s) (then_with e gives_in) o
call_gives t start b x f s (Gives (Some v) m) (Some u) shows = shows
call_gives t start b x f s (Gives (Some v) m) None shows = absurd shows
call_gives t start b x f s (Gives None m) o shows = left o shows
  where
    left : (o : Option DynState) → Shows t start f s (CallResult true b x s) Leaves o → Shows t start f s (HasGiven b x s) Leaves o
    left None shows = tt
    left (Some u) shows = absurd shows
call_gives t start b x f s (Throws m) (Some u) shows = shows
call_gives t start b x f s (Throws m) None shows = absurd shows
call_gives t start b x f s Leaves (Some u) shows = absurd shows
call_gives t start b x f s Leaves None shows = tt

-- ## arguments

abbrev pub Claims : Posed → ℕ → Ground → List Low → List Code → Type 0
Claims p n g [] [] = Unit {0}
Claims p n g (a ∷ as_) (c ∷ cs) = Claim p n g a c × Claims p n g as_ cs
Claims p n g _ _ = ⊥

-- the values at these variables
pub record HasAll (b : ℕ) (xs : List ℕ) (s : DynState) (vs : List Value) (m : Memory) (t : DynState) : Type 0 where
  pub memory : Remembers m t
  pub values : map (var_at t.vars) xs ≡ vs
  pub kept : IsKept b s t

args_skip : (p : Posed) (n : ℕ) (g : Ground) (as_ : List Low) (ks : List Kind) (t : Bool) (f : Spots) (b : ℕ) → t ≡ true → Skips p n f (arguments_low g as_ ks t f b).steps
args_skip p n g [] ks t f b is = skips_none p n f
args_skip p n g (a ∷ as_) ks t f b is =
    let x : Lowered = a.low (first_kind ks) f b in
    let rest : Arguments = arguments_low g as_ (later_kinds ks) (t || x.throws) f (behind g b x.place) in
    skips_both p n f (guarded f t x.steps) rest.steps (guard_skips p n f t x.steps is)
    (args_skip p n g as_ (later_kinds ks) (t || x.throws) f (behind g b x.place) (or_left t x.throws is))

args_throw : (g : Ground) (as_ : List Low) (ks : List Kind) (t : Bool) (f : Spots) (b : ℕ) → t ≡ true → (arguments_low g as_ ks t f b).throws ≡ true
args_throw g [] ks t f b is = is
args_throw g (a ∷ as_) ks t f b is =
    args_throw g as_ (later_kinds ks) (t || (a.low (first_kind ks) f b).throws) f (behind g b (a.low (first_kind ks) f b).place) (or_left t (a.low (first_kind ks) f b).throws is)

each_more : (b c : ℕ) (xs : List ℕ) → b ≤ c → Each (λ x. x < b) xs → Each (λ x. x < c) xs
each_more b c [] low each = tt
each_more b c (x ∷ xs) low each = (let below = each.0 in omega arith, each_more b c xs low each.1)

args_near : (p : Posed) (n : ℕ) (g : Ground) (as_ : List Low) (cs : List Code) (ks : List Kind) (t : Bool) (start : ℕ) (f : Spots) (b : ℕ) → Claims p n g as_ cs
    → IsFrame g start f → f.base ≤ b
    → (b ≤ (arguments_low g as_ ks t f b).free) × Each (λ x. x < (arguments_low g as_ ks t f b).free) (arguments_low g as_ ks t f b).places
args_near p n g [] [] ks t start f b claims frame above = (omega arith, tt)
args_near p n g [] (c ∷ cs) ks t start f b claims frame above = absurd claims
args_near p n g (a ∷ as_) [] ks t start f b claims frame above = absurd claims
args_near p n g (a ∷ as_) (c ∷ cs) ks t start f b claims frame above =
    let x : Lowered = a.low (first_kind ks) f b in
    let near = behind_above g b x.place (claims.0.near start f (first_kind ks) b frame above) in
    let far = near.0 in
    let rest = args_near p n g as_ cs (later_kinds ks) (t || x.throws) start f (behind g b x.place) claims.1 frame (omega arith) in
    let farther = rest.0 in
    let below = near.1 in
    (omega arith, (omega arith, rest.1))

-- one more value in front
shows_all : (t : Bool) (start : ℕ) (f : Spots) (s : DynState) {A B : Type 0} (Q : A → Memory → DynState → Type 0) (R : B → Memory → DynState → Type 0) (j : A → B) (e : Ends A)
    (o : Option DynState)
    → ((a : A) (m : Memory) (u : DynState) → Q a m u → R (j a) m u) → Shows t start f s Q e o → Shows t start f s R (then_with e (λ a m. Gives (j a) m)) o
shows_all t start f s Q R j (Gives a m) (Some u) holds shows = holds a m u shows
shows_all t start f s Q R j (Gives a m) None holds shows = absurd shows
shows_all t start f s Q R j (Throws m) (Some u) holds shows = shows
shows_all t start f s Q R j (Throws m) None holds shows = absurd shows
shows_all t start f s Q R j Leaves (Some u) holds shows = absurd shows
shows_all t start f s Q R j Leaves None holds shows = tt

pub args_show : (p : Posed) (n : ℕ) (g : Ground) (as_ : List Low) (cs : List Code) (ks : List Kind) (t : Bool) (start : ℕ) (f : Spots) (b : ℕ) (s u : DynState) (fr : Frame) (m : Memory)
    → Claims p n g as_ cs → IsFrame g start f → f.base ≤ b → IsKept start s u → IsReady g f fr m u
    → Shows (arguments_low g as_ ks t f b).throws start f s (HasAll b (arguments_low g as_ ks t f b).places u) (in_order cs fr m) (go p n (arguments_low g as_ ks t f b).steps u)
args_show p n g [] [] ks t start f b s u fr m claims frame above kept ready = record { memory = ready.opened.memory; values = refl; kept = kept_same b u }
args_show p n g [] (c ∷ cs) ks t start f b s u fr m claims frame above kept ready = absurd claims
args_show p n g (a ∷ as_) [] ks t start f b s u fr m claims frame above kept ready = absurd claims
args_show p n g (a ∷ as_) (c ∷ cs) ks t start f b s u fr m claims frame above kept ready =
    let x : Lowered = a.low (first_kind ks) f b in
    let b2 : ℕ = behind g b x.place in
    let rest : Arguments = arguments_low g as_ (later_kinds ks) (t || x.throws) f b2 in
    let near = behind_above g b x.place (claims.0.near start f (first_kind ks) b frame above) in
    let far = near.0 in
    operand_then p n g a c t rest.throws start f (first_kind ks) b s u fr m (HasAll b (x.place ∷ rest.places) u) (λ v h. then_with (in_order cs fr h) (λ vs l. Gives (v ∷ vs) l)) rest.steps
    claims.0 frame above kept ready
    (λ is. args_skip p n g as_ (later_kinds ks) (t || x.throws) f b2 (or_right t x.throws is))
    (λ is. args_throw g as_ (later_kinds ks) (t || x.throws) f b2 (or_right t x.throws is))
    (λ v h r given now.
    shows_all rest.throws start f s (HasAll b2 rest.places r) (HasAll b (x.place ∷ rest.places) u) (λ vs. v ∷ vs) (in_order cs fr h) (go p n rest.steps r)
    (λ vs j q has. record {
      memory = has.memory;
      values = rw (has.kept x.place near.1, given.value, has.values) refl;
      kept = kept_then b b b2 u r q (omega arith) (omega arith) given.kept has.kept;
    })
    (args_show p n g as_ cs (later_kinds ks) (t || x.throws) start f b2 s r fr h claims.1 frame (omega arith)
    (kept_then start start b s u r (omega arith) (let ordered = frame.flags.ordered in omega arith) kept given.kept) now))

-- ## the method

-- what the method gives is copied, where it is wanted
value_shows : (p : Posed) (n : ℕ) (g : Ground) (w t : Bool) (start b c y : ℕ) (f : Spots) (s q : DynState) (inl : Lowered) (e : Ends (Option Value))
    → HasFlags g start f → f.base ≤ b → b ≤ c → b ≤ y → IsKept b s q
    → Shows t start f q (InlineResult w c inl.place q) (as_wanted w e) (go p n inl.steps q)
    → Shows t start f s (CallResult w b y s) (as_wanted w e) (go p n (with_value_at w y inl) q)
value_shows p n g true t start b c y f s q inl e flags above far from kept shows =
    subst (Shows t start f s (CallResult true b y s) (as_wanted true e)) (sym (go_append p n inl.steps (l.Do (Copy y inl.place) ∷ []) q)) (by e (go p n inl.steps q) shows)
  where
    copied : (u : DynState) → go p n (l.Do (Copy y inl.place) ∷ []) u ≡ Some (set y (var_at u.vars inl.place) u)
    copied u = go_one p n (l.Do (Copy y inl.place)) u ∙ next_do p n (Copy y inl.place) u

    by : (e : Ends (Option Value)) (o : Option DynState) → Shows t start f q (InlineResult true c inl.place q) (as_wanted true e) o
        → Shows t start f s (CallResult true b y s) (as_wanted true e) (option_and_then (go p n (l.Do (Copy y inl.place) ∷ [])) o)
    by (Gives (Some v) m) (Some u) has = subst (Shows t start f s (CallResult true b y s) (Gives (Some v) m)) (sym (copied u)) (record {
      memory = has.memory;
      value = var_set u.vars y (var_at u.vars inl.place) ∙ has.value;
      kept = kept_then b b b s u (set y (var_at u.vars inl.place) u) (omega arith) (omega arith) (kept_then b b c s q u (omega arith) far kept has.kept)
          (kept_set b y (var_at u.vars inl.place) u from);
    })
    by (Gives (Some v) m) None has = absurd has
    by (Gives None m) (Some u) has = absurd has
    by (Gives None m) None has = tt
    by (Throws m) (Some u) has =
        let ordered = flags.ordered in
        let done_below = flags.done_below in
        let thrown_below = flags.thrown_below in
        let same = kept_set b y (var_at u.vars inl.place) u from in
        subst (Shows t start f s (CallResult true b y s) (Throws m)) (sym (copied u)) (
          has.0,
          record {
            memory = has.1.memory;
            done = same f.done (omega arith) ∙ has.1.done;
            thrown = same f.thrown (omega arith) ∙ has.1.thrown;
            kept = λ z low. same z (omega arith) ∙ has.1.kept z low ∙ kept z (omega arith);
          },
        )
    by (Throws m) None has = absurd has
    by Leaves (Some u) has = absurd has
    by Leaves None has = tt
value_shows p n g false t start b c y f s q inl e flags above far from kept shows = by e (go p n inl.steps q) shows
  where
    by : (e : Ends (Option Value)) (o : Option DynState) → Shows t start f q (InlineResult false c inl.place q) e o → Shows t start f s (CallResult false b y s) e o
    by (Gives (Some v) m) (Some u) has = (has.memory, kept_then b b c s q u (omega arith) far kept has.kept)
    by (Gives (Some v) m) None has = absurd has
    by (Gives None m) (Some u) has = (has.1, kept_then b b c s q u (omega arith) far kept has.2)
    by (Gives None m) None has = absurd has
    by (Throws m) (Some u) has =
        let ordered = flags.ordered in
        (has.0, record { memory = has.1.memory; done = has.1.done; thrown = has.1.thrown; kept = λ z low. has.1.kept z low ∙ kept z (omega arith) })
    by (Throws m) None has = absurd has
    by Leaves (Some u) has = absurd has
    by Leaves None has = tt

-- ## entering the method

-- the target has its value in its variable
abbrev pub TargetIs : Option ℕ → Option Value → ℕ → DynState → Type 0
TargetIs None None b s = Unit {0}
TargetIs (Some x) (Some v) b s = (var_at s.vars x ≡ v) × (x < b)
TargetIs None (Some v) b s = ⊥
TargetIs (Some x) None b s = ⊥

object_wanted : (w : Bool) (k : ℕ → Memory → Ends (Option Value)) (v : Value) (m : Memory) → on_object (λ o n. as_wanted w (k o n)) v m ≡ as_wanted w (on_object k v m)
object_wanted true k (Obj o) m = refl
object_wanted true k Null m = refl
object_wanted true k (Num z) m = refl
object_wanted true k (Flag c) m = refl
object_wanted false k (Obj o) m = refl
object_wanted false k Null m = refl
object_wanted false k (Num z) m = refl
object_wanted false k (Flag c) m = refl

keep_values : (b : ℕ) (s t : DynState) (xs : List ℕ) → Each (λ x. x < b) xs → IsKept b s t → map (var_at t.vars) xs ≡ map (var_at s.vars) xs
keep_values b s t [] each kept = refl
keep_values b s t (x ∷ xs) each kept = rw (kept x each.0, keep_values b s t xs each.1 kept) refl

result_from : (w : Bool) (b y : ℕ) (s r : DynState) (a : Option Value) (h : Memory) (u : DynState) → IsKept b s r → CallResult w b y r a h u → CallResult w b y s a h u
result_from true b y s r (Some v) h u kept has = given_from b b y s r u v h (omega arith) kept has
result_from true b y s r None h u kept has = has
result_from false b y s r a h u kept has = (has.0, kept_then b b b s r u (omega arith) (omega arith) kept has.1)

entered_shows : (p : Posed) (n : ℕ) (g : Ground) (run : Run) (inline : Inline) (method class : ℕ) (tp : Option ℕ) (tv : Option Value) (w t : Bool) (start : ℕ) (f : Spots)
    (b c y : ℕ) (s r : DynState) (fr : Frame) (l : Memory) (xs : List ℕ) (vs : List Value)
    → Inlines p n g run inline → IsFrame g start f → f.base ≤ b → b ≤ c → b ≤ y → IsKept b s r → IsReady g f fr l r
    → TargetIs tp tv c r → Each (λ x. x < c) xs → map (var_at r.vars) xs ≡ vs
    → (can_be_null f tp ≡ true → t ≡ true) → ((inline method tp xs w f c).throws ≡ true → t ≡ true)
    → Shows t start f s (CallResult w b y s) (as_wanted w (entered run method tv vs l)) (go p n (entered_low g f c class tp (with_value_at w y (inline method tp xs w f c))) r)
entered_shows p n g run inline method class None None w t start f b c y s r fr l xs vs inlines frame above far from kept ready target each values may throws =
    let inl : Lowered = inline method None xs w f c in
    weaker inl.throws t start f s (CallResult w b y s) (as_wanted w (run method Null vs l)) (go p n (with_value_at w y inl) r) throws
    (value_shows p n g w inl.throws start b c y f s r inl (run method Null vs l) frame.flags above far from kept
    (inlines.shows method None xs w f c start r l Null vs frame.flags (omega arith) ready.opened refl (λ x is. absurd (none_some is)) each values))
entered_shows p n g run inline method class (Some x) (Some v) w t start f b c y s r fr l xs vs inlines frame above far from kept ready target each values may throws =
    let inl : Lowered = inline method (Some x) xs w f c in
    subst (λ e. Shows t start f s (CallResult w b y s) e (go p n (through g f c class x (with_value_at w y inl)) r)) (object_wanted w (λ o q. run method (Obj o) vs q) v l)
    (shows_from t start b f s r (CallResult w b y r) (CallResult w b y s) (on_object (λ o q. as_wanted w (run method (Obj o) vs q)) v l)
    (go p n (through g f c class x (with_value_at w y inl)) r) (let ordered = frame.flags.ordered in omega arith) kept
    (λ a h u has. result_from w b y s r a h u kept has)
    (through_shows p n g t start c f class x l r fr.this v (CallResult w b y r) (λ o q. as_wanted w (run method (Obj o) vs q)) (with_value_at w y inl) may frame.flags
    (omega arith) ready.opened ready.this target.0 target.1
    (λ o q is memory later.
    weaker inl.throws t start f r (CallResult w b y r) (as_wanted w (run method (Obj o) vs l)) (go p n (with_value_at w y inl) q) throws
    (value_shows p n g w inl.throws start b c y f r q inl (run method (Obj o) vs l) frame.flags above far from (λ z low. later z (omega arith))
    (inlines.shows method (Some x) xs w f c start q l (Obj o) vs frame.flags (omega arith) (open_on g start c f l l r q frame.flags (omega arith) ready.opened memory later)
    (later x target.1 ∙ target.0 ∙ is, (o, refl)) (λ z same. subst (λ i. i < c) (some_same same) target.1) each (keep_values c r q xs each later ∙ values))))))
entered_shows p n g run inline method class None (Some v) w t start f b c y s r fr l xs vs inlines frame above far from kept ready target each values may throws = absurd target
entered_shows p n g run inline method class (Some x) None w t start f b c y s r fr l xs vs inlines frame above far from kept ready target each values may throws = absurd target

-- ## whole calls

wanted_then : (w : Bool) {A : Type 0} (e : Ends A) (k : A → Memory → Ends (Option Value)) → then_with e (λ a m. as_wanted w (k a m)) ≡ as_wanted w (then_with e k)
wanted_then w (Gives a m) k = refl
wanted_then true (Throws m) k = refl
wanted_then false (Throws m) k = refl
wanted_then true Leaves k = refl
wanted_then false Leaves k = refl

then_some : (e : Ends Value) (k : Option Value → Memory → Ends (Option Value)) → then_with e (λ v n. k (Some v) n) ≡ then_with (then_with e (λ v n. Gives (Some v) n)) k
then_some (Gives a m) k = refl
then_some (Throws m) k = refl
then_some Leaves k = refl

pub first_of_three : (a b c : Bool) → a ≡ true → (a || b || c) ≡ true
first_of_three true b c is = refl
first_of_three false b c is = absurd (false≢true is)

pub second_of_three : (a b c : Bool) → b ≡ true → (a || b || c) ≡ true
second_of_three true b c is = refl
second_of_three false true c is = refl
second_of_three false false c is = absurd (false≢true is)

pub third_of_three : (a b c : Bool) → c ≡ true → (a || b || c) ≡ true
third_of_three true b c is = refl
third_of_three false true c is = refl
third_of_three false false c is = is

target_on : (tp : Option ℕ) (tv : Option Value) (b c : ℕ) (s t : DynState) → b ≤ c → IsKept b s t → TargetIs tp tv b s → TargetIs tp tv c t
target_on None None b c s t low kept is = tt
target_on (Some x) (Some v) b c s t low kept is = (kept x is.1 ∙ is.0, let below = is.1 in omega arith)
target_on None (Some v) b c s t low kept is = is
target_on (Some x) None b c s t low kept is = is

-- the arguments, and then the method, where the target has its value
args_then : (p : Posed) (n : ℕ) (g : Ground) (run : Run) (inline : Inline) (method : ℕ) (as_ : List Low) (cs : List Code) (target : Target) (tv : Option Value) (w : Bool)
    (start : ℕ) (f : Spots) (b : ℕ) (s u : DynState) (fr : Frame) (m : Memory)
    → Inlines p n g run inline → Claims p n g as_ cs → IsFrame g start f → f.base ≤ b → b ≤ target.free → IsKept b s u → IsReady g f fr m u → TargetIs target.place tv target.free u
    → Shows (with_target g inline method as_ w f b target).throws start f s (CallResult w b (b + slot g (kind_or (kind_of_result g method) kind.Int)) s)
    (as_wanted w (then_with (in_order cs fr m) (λ vs l. entered run method tv vs l)))
    (go p n ((arguments_low g as_ (kinds_of_params g method) target.throws f target.free).steps ++ guarded f
    (arguments_low g as_ (kinds_of_params g method) target.throws f target.free).throws
    (entered_low g f (arguments_low g as_ (kinds_of_params g method) target.throws f target.free).free (class_of_method g method) target.place
    (with_value_at w (b + slot g (kind_or (kind_of_result g method) kind.Int))
    (inline method target.place (arguments_low g as_ (kinds_of_params g method) target.throws f target.free).places w f
    (arguments_low g as_ (kinds_of_params g method) target.throws f target.free).free)))) u)
args_then p n g run inline method as_ cs target tv w start f b s u fr m inlines claims frame above far kept ready is =
    let args : Arguments = arguments_low g as_ (kinds_of_params g method) target.throws f target.free in
    let y : ℕ = b + slot g (kind_or (kind_of_result g method) kind.Int) in
    let inl : Lowered = inline method target.place args.places w f args.free in
    let t : Bool = args.throws || can_be_null f target.place || inl.throws in
    let body : List Plan = entered_low g f args.free (class_of_method g method) target.place (with_value_at w y inl) in
    let near = args_near p n g as_ cs (kinds_of_params g method) target.throws start f target.free claims frame (omega arith) in
    let farther = near.0 in
    let low : start ≤ b = let ordered = frame.flags.ordered in omega arith in
    subst (λ e. Shows t start f s (CallResult w b y s) e (go p n (args.steps ++ guarded f args.throws body) u)) (wanted_then w (in_order cs fr m) (λ vs l. entered run method tv vs l))
    (then_shows p n args.throws t start f s u (HasAll target.free args.places u) (CallResult w b y s) (in_order cs fr m) (λ vs l. as_wanted w (entered run method tv vs l))
    args.steps (guarded f args.throws body)
    (guard_skips p n f args.throws body) (first_of_three args.throws (can_be_null f target.place) inl.throws)
    (args_show p n g as_ cs (kinds_of_params g method) target.throws start f target.free s u fr m claims frame (omega arith) (λ z below. kept z (omega arith)) ready)
    (λ vs l r has.
    let now : IsReady g f fr l r = ready_on g start target.free f fr m l u r frame (omega arith) ready has.memory has.kept in
    subst (Shows t start f s (CallResult w b y s) (as_wanted w (entered run method tv vs l))) (sym (guard_opens p n f args.throws body r now.opened.done))
    (entered_shows p n g run inline method (class_of_method g method) target.place tv w t start f b args.free y s r fr l args.places vs inlines frame above (omega arith) (omega arith)
    (kept_then b b target.free s u r (omega arith) far kept has.kept) now (target_on target.place tv target.free args.free u r farther has.kept is) near.1 has.values
    (second_of_three args.throws (can_be_null f target.place) inl.throws) (third_of_three args.throws (can_be_null f target.place) inl.throws))))

-- the target, lowered
abbrev pub TargetClaim : Posed → ℕ → Ground → Option Low → Option Code → Type 0
TargetClaim p n g None None = Unit {0}
TargetClaim p n g (Some a) (Some c) = Claim p n g a c
TargetClaim p n g None (Some c) = ⊥
TargetClaim p n g (Some a) None = ⊥

pub called_shows : (p : Posed) (n : ℕ) (g : Ground) (run : Run) (inline : Inline) (method : ℕ) (target : Option Low) (of : Option Code) (as_ : List Low) (cs : List Code)
    (w : Bool) (start : ℕ) (f : Spots) (b : ℕ) (s : DynState) (fr : Frame) (m : Memory)
    → Inlines p n g run inline → TargetClaim p n g target of → Claims p n g as_ cs → IsFrame g start f → f.base ≤ b → IsReady g f fr m s
    → Shows (with_target g inline method as_ w f b (target_low g target (class_of_method g method) f b)).throws start f s
    (CallResult w b (b + slot g (kind_or (kind_of_result g method) kind.Int)) s)
    (as_wanted w (then_with (target_of of fr m) (λ this h. then_with (in_order cs fr h) (λ vs l. entered run method this vs l))))
    (go p n (with_target g inline method as_ w f b (target_low g target (class_of_method g method) f b)).steps s)
called_shows p n g run inline method None None as_ cs w start f b s fr m inlines claim claims frame above ready =
    args_then p n g run inline method as_ cs (target_low g None (class_of_method g method) f b) None w start f b s s fr m inlines claims frame above (omega arith) (kept_same b s) ready tt
called_shows p n g run inline method (Some a) (Some c) as_ cs w start f b s fr m inlines claim claims frame above ready =
    let k : Kind = kind.Ref (class_of_method g method) in
    let x : Lowered = a.low k f b in
    let target : Target = target_low g (Some a) (class_of_method g method) f b in
    let args : Arguments = arguments_low g as_ (kinds_of_params g method) x.throws f target.free in
    let y : ℕ = b + slot g (kind_or (kind_of_result g method) kind.Int) in
    let inl : Lowered = inline method target.place args.places w f args.free in
    let t : Bool = args.throws || can_be_null f target.place || inl.throws in
    let body : List Plan = entered_low g f args.free (class_of_method g method) target.place (with_value_at w y inl) in
    let rest : List Plan = args.steps ++ guarded f args.throws body in
    let near = behind_above g b x.place (claim.near start f k b frame above) in
    let on : Value → Memory → Ends (Option Value) = λ v h. then_with (in_order cs fr h) (λ vs l. entered run method (Some v) vs l) in
    subst (λ e. Shows t start f s (CallResult w b y s) e (go p n (x.steps ++ rest) s))
    (wanted_then w (c fr m) on ∙ ap (as_wanted w) (then_some (c fr m) (λ this h. then_with (in_order cs fr h) (λ vs l. entered run method this vs l))))
    (operand_then p n g a c false t start f k b s s fr m (CallResult w b y s) (λ v h. as_wanted w (on v h)) rest claim frame above (kept_same start s) ready
    (λ is. skips_both p n f args.steps (guarded f args.throws body) (args_skip p n g as_ (kinds_of_params g method) x.throws f target.free is)
    (guard_skips p n f args.throws body (args_throw g as_ (kinds_of_params g method) x.throws f target.free is)))
    (λ is. first_of_three args.throws (can_be_null f target.place) inl.throws (args_throw g as_ (kinds_of_params g method) x.throws f target.free is))
    (λ v h u given now.
    args_then p n g run inline method as_ cs target (Some v) w start f b s u fr h inlines claims frame above near.0 given.kept now (given.value, near.1)))
called_shows p n g run inline method None (Some c) as_ cs w start f b s fr m inlines claim claims frame above ready = absurd claim
called_shows p n g run inline method (Some a) None as_ cs w start f b s fr m inlines claim claims frame above ready = absurd claim

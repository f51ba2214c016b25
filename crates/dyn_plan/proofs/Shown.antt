-- What steps show of an evaluation: the relations, and how parts are put together.
use Rattle.std.proofs.Common.{◌≡◌, ℕ, ◌+◌, ◌<◌, ◌≤◌, Bool, true, false, List, [], ◌∷◌, ◌++◌, Option, Some, None, refl, sym, ◌∙◌, ap, subst, arith}
use Rattle.std.specs.Prelude.{pos, map, length, option_and_then}
use Rattle.std.proofs.lemmas.Bool.{false≢true}
use Rattle.heap_core.specs.declared.value.Value.{Value}
use Rattle.heap_core.specs.declared.value.Value.TheVariants.{Null, Obj, Num, Flag}
use Rattle.heap_core.specs.Posed.{Posed}
use Rattle.heap_core.specs.Outcomes.{zero_of}
use Rattle.heap_core.specs.Exec.{Memory, Ends, Gives, Throws, Leaves, Frame, then_with}
use Rattle.dyn_core.specs.declared.state.DynState.{DynState}
use Rattle.dyn_core.specs.States.{var_at, with_var}
use Rattle.dyn_core.proofs.Vars.{var_apart}
use Rattle.dyn_plan.specs.declared.plan.Plan.{Plan}
use Rattle.dyn_plan.specs.declared.plan.Plan.TheVariants as l
use Rattle.dyn_plan.specs.Plans.{Next, by_flag, next, go}
use Rattle.dyn_plan.specs.Places.{Ground, Spots, width, flag_of}
use Rattle.dyn_plan.specs.Guards.{guarded}
use Rattle.dyn_plan.proofs.PlanForms.{next_if}

-- ## variables

abbrev pub set : ℕ → Value → DynState → DynState
set x v s = record s { vars = with_var s.vars x v }

-- the variables below b are as they were
abbrev pub IsKept : ℕ → DynState → DynState → Type 0
IsKept b s t = (y : ℕ) → y < b → var_at t.vars y ≡ var_at s.vars y

pub kept_set : (b x : ℕ) (v : Value) (s : DynState) → b ≤ x → IsKept b s (set x v s)
kept_set b x v s above y low = var_apart s.vars x v y (λ same. omega arith)

pub kept_same : (b : ℕ) (s : DynState) → IsKept b s s
kept_same b s y low = refl

pub kept_then : (d b c : ℕ) (s t u : DynState) → d ≤ b → d ≤ c → IsKept b s t → IsKept c t u → IsKept d s u
kept_then d b c s t u first second one two y low = two y (omega arith) ∙ one y (omega arith)

-- ## frames

-- the row behind the two that stand still
abbrev pub moving : Ground → ℕ
moving g = g.first + width g + width g

-- what stands still in the first two rows
pub record Stands (g : Ground) (s : DynState) : Type 0 where
  pub zero : var_at s.vars g.first ≡ Num (pos 0)
  pub one : var_at s.vars (g.first + width g) ≡ Num (pos 1)
  pub flags : (b : Bool) → var_at s.vars (flag_of g b) ≡ Flag b
  pub nulls : (c : ℕ) → c < length g.unit.classes → var_at s.vars (g.first + (2 + c)) ≡ Null

pub stands_on : (g : Ground) (b : ℕ) (s t : DynState) → moving g ≤ b → IsKept b s t → Stands g s → Stands g t
stands_on g b s t low kept still = record {
  zero = kept g.first (omega arith) ∙ still.zero;
  one = kept (g.first + width g) (omega arith) ∙ still.one;
  flags = flags;
  nulls = λ c few. kept (g.first + (2 + c)) (omega arith) ∙ still.nulls c few;
}
  where
    flags : (b : Bool) → var_at t.vars (flag_of g b) ≡ Flag b
    flags true = kept (flag_of g true) (omega arith) ∙ still.flags true
    flags false = kept (flag_of g false) (omega arith) ∙ still.flags false

-- the state has the memory
abbrev pub Remembers : Memory → DynState → Type 0
Remembers m s = s.objects ≡ m.heap

-- the receiver stands in its variable, and is an object; without one it is null
abbrev pub ThisIs : Option ℕ → Value → DynState → Type 0
ThisIs None this s = this ≡ Null
ThisIs (Some x) this s = (var_at s.vars x ≡ this) × ((o : ℕ) × (this ≡ Obj o))

-- a frame that is not done
pub record IsOpen (g : Ground) (f : Spots) (m : Memory) (s : DynState) : Type 0 where
  pub memory : Remembers m s
  pub done : var_at s.vars f.done ≡ Flag false
  pub thrown : var_at s.vars f.thrown ≡ Flag false
  pub still : Stands g s

-- and whose variables have the values of the receiver and the locals
pub record IsReady (g : Ground) (f : Spots) (fr : Frame) (m : Memory) (s : DynState) : Type 0 where
  pub opened : IsOpen g f m s
  pub this : ThisIs f.this fr.this s
  pub locals : map (var_at s.vars) f.locals ≡ fr.locals
  pub result : var_at s.vars f.result ≡ zero_of f.gives

-- the flags of a frame that begins at `start`
pub record HasFlags (g : Ground) (start : ℕ) (f : Spots) : Type 0 where
  pub still : moving g ≤ start
  pub done_above : start ≤ f.done
  pub done_below : f.done < f.base
  pub thrown_above : start ≤ f.thrown
  pub thrown_below : f.thrown < f.base
  pub apart : f.done ≡ f.thrown → ⊥
  pub ordered : start ≤ f.base

-- all of these variables are such
abbrev pub Each : (ℕ → Type 0) → List ℕ → Type 0
Each P [] = Unit {0}
Each P (x ∷ xs) = P x × Each P xs

-- each of these variables lies below all that come after it
abbrev pub Rising : List ℕ → Type 0
Rising [] = Unit {0}
Rising (x ∷ xs) = Each (λ y. x < y) xs × Rising xs

-- all variables of a frame
pub record IsFrame (g : Ground) (start : ℕ) (f : Spots) : Type 0 where
  pub flags : HasFlags g start f
  pub this_below : (x : ℕ) → f.this ≡ Some x → x < start
  pub result_above : start ≤ f.result
  pub result_below : f.result < f.base
  pub result_apart : f.result ≡ f.done → ⊥
  pub result_apart_thrown : f.result ≡ f.thrown → ⊥
  pub locals : Each (λ y. (start ≤ y) × (y < f.base) × (y ≡ f.done → ⊥) × (y ≡ f.thrown → ⊥) × (y ≡ f.result → ⊥)) f.locals
  pub rising : Rising f.locals

-- ## what is shown

-- a value at x
pub record HasGiven (b x : ℕ) (s : DynState) (v : Value) (m : Memory) (t : DynState) : Type 0 where
  pub memory : Remembers m t
  pub value : var_at t.vars x ≡ v
  pub kept : IsKept b s t

pub record HasThrown (start : ℕ) (f : Spots) (s : DynState) (m : Memory) (t : DynState) : Type 0 where
  pub memory : Remembers m t
  pub done : var_at t.vars f.done ≡ Flag true
  pub thrown : var_at t.vars f.thrown ≡ Flag true
  pub kept : IsKept start s t

-- the steps lead where the evaluation does: to a state of which Q holds; to one that has thrown, which may be only
-- where that is said; or nowhere
abbrev pub Shows : Bool → ℕ → Spots → DynState → {A : Type 0} → (A → Memory → DynState → Type 0) → Ends A → Option DynState → Type 0
Shows throws start f s Q (Gives a m) (Some t) = Q a m t
Shows throws start f s Q (Gives a m) None = ⊥
Shows throws start f s Q (Throws m) (Some t) = (throws ≡ true) × HasThrown start f s m t
Shows throws start f s Q (Throws m) None = ⊥
Shows throws start f s Q Leaves (Some t) = ⊥
Shows throws start f s Q Leaves None = Unit {0}

-- ## steps

pub and_then_some : {A : Type 0} (o : Option A) → option_and_then (λ x. Some x) o ≡ o
and_then_some None = refl
and_then_some (Some x) = refl

pub go_one : (p : Posed) (n : ℕ) (x : Plan) (s : DynState) → go p n (x ∷ []) s ≡ next p n x s
go_one p n x s = and_then_some (next p n x s)

on_both : (f g h : Next) → ((t : DynState) → f t ≡ option_and_then h (g t)) → (o : Option DynState) → option_and_then f o ≡ option_and_then h (option_and_then g o)
on_both f g h same None = refl
on_both f g h same (Some t) = same t

pub go_append : (p : Posed) (n : ℕ) (xs ys : List Plan) (s : DynState) → go p n (xs ++ ys) s ≡ option_and_then (go p n ys) (go p n xs s)
go_append p n [] ys s = refl
go_append p n (x ∷ xs) ys s = on_both (go p n (xs ++ ys)) (go p n xs) (go p n ys) (go_append p n xs ys) (next p n x s)

-- steps that a frame that is done leaves out
abbrev pub Skips : Posed → ℕ → Spots → List Plan → Type 0
Skips p n f steps = (s : DynState) → var_at s.vars f.done ≡ Flag true → go p n steps s ≡ Some s

pub skips_none : (p : Posed) (n : ℕ) (f : Spots) → Skips p n f []
skips_none p n f s done = refl

pub skips_both : (p : Posed) (n : ℕ) (f : Spots) (xs ys : List Plan) → Skips p n f xs → Skips p n f ys → Skips p n f (xs ++ ys)
skips_both p n f xs ys one two s done = go_append p n xs ys s ∙ ap (option_and_then (go p n ys)) (one s done) ∙ two s done

pub guard_skips : (p : Posed) (n : ℕ) (f : Spots) (t : Bool) (steps : List Plan) → t ≡ true → Skips p n f (guarded f t steps)
guard_skips p n f false steps is s done = absurd (false≢true is)
guard_skips p n f true [] is s done = refl
guard_skips p n f true (x ∷ steps) is s done =
    go_one p n (l.If f.done [] (x ∷ steps)) s
    ∙ next_if p n f.done [] (x ∷ steps) s
    ∙ ap (λ v. by_flag v (Some s) (go p n (x ∷ steps) s)) done

pub guard_opens : (p : Posed) (n : ℕ) (f : Spots) (t : Bool) (steps : List Plan) (s : DynState) → var_at s.vars f.done ≡ Flag false → go p n (guarded f t steps) s ≡ go p n steps s
guard_opens p n f false steps s open_ = refl
guard_opens p n f true [] s open_ = refl
guard_opens p n f true (x ∷ steps) s open_ =
    go_one p n (l.If f.done [] (x ∷ steps)) s
    ∙ next_if p n f.done [] (x ∷ steps) s
    ∙ ap (λ v. by_flag v (Some s) (go p n (x ∷ steps) s)) open_

-- ## putting together

pub weaker : (t u : Bool) (start : ℕ) (f : Spots) (s : DynState) {A : Type 0} (Q : A → Memory → DynState → Type 0) (e : Ends A) (o : Option DynState) → (t ≡ true → u ≡ true)
    → Shows t start f s Q e o → Shows u start f s Q e o
weaker t u start f s Q (Gives a m) (Some r) more shows = shows
weaker t u start f s Q (Gives a m) None more shows = absurd shows
weaker t u start f s Q (Throws m) (Some r) more shows = (more shows.0, shows.1)
weaker t u start f s Q (Throws m) None more shows = absurd shows
weaker t u start f s Q Leaves (Some r) more shows = absurd shows
weaker t u start f s Q Leaves None more shows = tt

-- what is shown from a later state is shown from the first
pub shows_from : (t : Bool) (start b : ℕ) (f : Spots) (r s : DynState) {A : Type 0} (Q R : A → Memory → DynState → Type 0) (e : Ends A) (o : Option DynState)
    → start ≤ b → IsKept b r s → ((a : A) (m : Memory) (u : DynState) → Q a m u → R a m u) → Shows t start f s Q e o → Shows t start f r R e o
shows_from t start b f r s Q R (Gives a m) (Some u) low kept holds shows = holds a m u shows
shows_from t start b f r s Q R (Gives a m) None low kept holds shows = absurd shows
shows_from t start b f r s Q R (Throws m) (Some u) low kept holds shows = (
  shows.0,
  record {
    memory = shows.1.memory;
    done = shows.1.done;
    thrown = shows.1.thrown;
    kept = kept_then start b start r s u low (omega arith) kept shows.1.kept;
  },
)
shows_from t start b f r s Q R (Throws m) None low kept holds shows = absurd shows
shows_from t start b f r s Q R Leaves (Some u) low kept holds shows = absurd shows
shows_from t start b f r s Q R Leaves None low kept holds shows = tt

-- one part, and then another that is left out where the frame is done; the steps begin at w, and what is shown is shown
-- from s
pub then_shows : (p : Posed) (n : ℕ) (t u : Bool) (start : ℕ) (f : Spots) (s w : DynState) {A B : Type 0} (Q : A → Memory → DynState → Type 0) (R : B → Memory → DynState → Type 0)
    (e : Ends A) (k : A → Memory → Ends B) (first rest : List Plan)
    → (t ≡ true → Skips p n f rest)
    → (t ≡ true → u ≡ true)
    → Shows t start f s Q e (go p n first w)
    → ((a : A) (m : Memory) (r : DynState) → Q a m r → Shows u start f s R (k a m) (go p n rest r))
    → Shows u start f s R (then_with e k) (go p n (first ++ rest) w)
then_shows p n t u start f s w {A} {B} Q R e k first rest skips more shows on =
    subst (Shows u start f s R (then_with e k)) (sym (go_append p n first rest w)) (both e (go p n first w) shows)
  where
    both : (e : Ends A) (o : Option DynState) → Shows t start f s Q e o → Shows u start f s R (then_with e k) (option_and_then (go p n rest) o)
    both (Gives a m) (Some r) shows = on a m r shows
    both (Gives a m) None shows = absurd shows
    both (Throws m) (Some r) shows =
        subst (Shows u start f s R (Throws m)) (sym (skips shows.0 r shows.1.done)) (more shows.0, shows.1)
    both (Throws m) None shows = absurd shows
    both Leaves (Some r) shows = absurd shows
    both Leaves None shows = tt

-- ## a frame that is kept

pub this_on : (b : ℕ) (s t : DynState) (this : Option ℕ) (v : Value) → ((x : ℕ) → this ≡ Some x → x < b) → IsKept b s t → ThisIs this v s → ThisIs this v t
this_on b s t None v below kept is = is
this_on b s t (Some x) v below kept is = (kept x (below x refl) ∙ is.0, is.1)

pub locals_on : (b : ℕ) (P : ℕ → Type 0) (s t : DynState) (xs : List ℕ) → ((x : ℕ) → P x → x < b) → Each P xs → IsKept b s t → map (var_at t.vars) xs ≡ map (var_at s.vars) xs
locals_on b P s t [] below each kept = refl
locals_on b P s t (x ∷ xs) below each kept = rw (kept x (below x each.0), locals_on b P s t xs below each.1 kept) refl

pub open_on : (g : Ground) (start b : ℕ) (f : Spots) (m l : Memory) (s t : DynState) → HasFlags g start f → f.base ≤ b → IsOpen g f m s → Remembers l t → IsKept b s t → IsOpen g f l t
open_on g start b f m l s t flags low open_ memory kept = record {
  memory = memory;
  done = let below = flags.done_below in kept f.done (omega arith) ∙ open_.done;
  thrown = let below = flags.thrown_below in kept f.thrown (omega arith) ∙ open_.thrown;
  still = let far = flags.still in let ordered = flags.ordered in stands_on g b s t (omega arith) kept open_.still;
}

pub ready_on : (g : Ground) (start b : ℕ) (f : Spots) (fr : Frame) (m l : Memory) (s t : DynState) → IsFrame g start f → f.base ≤ b → IsReady g f fr m s → Remembers l t
    → IsKept b s t → IsReady g f fr l t
ready_on g start b f fr m l s t frame low ready memory kept = record {
  opened = open_on g start b f m l s t frame.flags low ready.opened memory kept;
  this = this_on b s t f.this fr.this (λ x is. let below = frame.this_below x is in let ordered = frame.flags.ordered in omega arith) kept ready.this;
  locals = locals_on b (λ y. (start ≤ y) × (y < f.base) × (y ≡ f.done → ⊥) × (y ≡ f.thrown → ⊥) × (y ≡ f.result → ⊥)) s t f.locals (λ x each. let below = each.1 in omega arith)
      frame.locals kept ∙ ready.locals;
  result = let below = frame.result_below in kept f.result (omega arith) ∙ ready.result;
}

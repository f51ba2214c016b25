-- The forms of expressions without calls: each shows its value.
use Rattle.std.proofs.Common.{◌≡◌, ℕ, zero, suc, ◌+◌, ◌<◌, ◌≤◌, Bool, true, false, not, List, [], ◌∷◌, Option, Some, None, refl, sym, ◌∙◌, ap, subst, arith}
use Rattle.std.specs.Prelude.{◌||◌, pos, if◌then◌else◌, option_and_then, option_map, length, slice_get}
use Rattle.taco_unit.specs.declared.kind.Kind.{Kind}
use Rattle.taco_unit.specs.declared.kind.Kind.TheVariants as kind
use Rattle.taco_unit.specs.declared.expr.Op.{Op}
use Rattle.taco_unit.specs.declared.expr.Op.TheVariants as op
use Rattle.taco_unit.specs.declared.unit.ClassDef.{ClassDef}
use Rattle.heap_core.specs.declared.value.Value.{Value}
use Rattle.heap_core.specs.declared.value.Value.TheVariants.{Null, Obj, Num, Flag}
use Rattle.heap_core.specs.declared.value.Object.{Object}
use Rattle.heap_core.specs.declared.value.Seen.{Seen}
use Rattle.heap_core.specs.declared.value.Seen.TheVariants.{Is}
use Rattle.heap_core.specs.Posed.{Posed}
use Rattle.heap_core.specs.Outcomes.{number, value_in, negative, operated, same}
use Rattle.heap_core.specs.Heap.{Heap, cell, cell_of, field, grown}
use Rattle.heap_core.specs.Exec.{Memory, Ends, Gives, Frame, Code, then_with, ends_as, on_test, then_test, as_test, on_object, gives_in, read, make, with_heap, combined}
use Rattle.dyn_core.specs.declared.prog.Act.{Act}
use Rattle.dyn_core.specs.declared.prog.Act.TheVariants.{Const, Same, Read, Make}
use Rattle.dyn_core.specs.declared.state.DynState.{DynState}
use Rattle.dyn_core.specs.States.{var_at, with_var}
use Rattle.dyn_core.specs.Actions.{with_given, acted}
use Rattle.dyn_core.proofs.Vars.{var_set}
use Rattle.dyn_plan.specs.declared.plan.Plan.{Plan}
use Rattle.dyn_plan.specs.declared.plan.Plan.TheVariants as l
use Rattle.dyn_plan.specs.Plans.{by_flag, go}
use Rattle.dyn_plan.specs.Places.{Ground, Spots, width, slot, behind, flag_of, is_receiver}
use Rattle.dyn_plan.specs.Guards.{Lowered, guarded, null_at, through}
use Rattle.dyn_plan.specs.Expressions.{Low, class_of_field, kind_of_field, operand_kind, as_truth, short, combined_low, after_one, read_low, found, this_low}
use Rattle.dyn_plan.proofs.PlanForms.{next_do, next_if}
use Rattle.dyn_plan.proofs.Shown.{IsKept, kept_set, kept_same, kept_then, Stands, moving, Remembers, ThisIs, IsFrame}
use Rattle.dyn_plan.proofs.Shown.{IsReady, Each, HasGiven, Shows, weaker, shows_from, go_one, guard_skips, guard_opens}
use Rattle.dyn_plan.proofs.Operations.{IsDefined, did, null_there, same_defined}
use Rattle.dyn_plan.proofs.NullTests.{through_shows}
use Rattle.std.proofs.lemmas.Option.{slice_get-map}
use Rattle.heap_core.proofs.FieldLaws.{none_some, some_same}
use Rattle.std.proofs.Math.IntN.{+ℤ_idl}
use Rattle.std.specs.Prelude.{neg_ℤ}
use Rattle.dyn_plan.proofs.ExprShown.{behind_above, or_left, or_right, Claim, operand_then, stays, goes_nowhere, given_from, both_claim}

-- ## leaves

pub null_shows : (p : Posed) (n : ℕ) (g : Ground) (start : ℕ) (f : Spots) (k : Kind) (b : ℕ) (s : DynState) (m : Memory) → moving g ≤ b → Stands g s → Remembers m s
    → Shows (null_at g b k).throws start f s (HasGiven b (null_at g b k).place s) (Gives Null m) (go p n (null_at g b k).steps s)
null_shows p n g start f k b s m low still memory =
    let null = null_there p n g b m s k low still memory in
    subst (Shows (null_at g b k).throws start f s (HasGiven b (null_at g b k).place s) (Gives Null m)) (sym null.leads) null.has

pub each_at : (P : ℕ → Type 0) (xs : List ℕ) (i x : ℕ) → Each P xs → slice_get xs i ≡ Some x → P x
each_at P [] i x each at = absurd (none_some at)
each_at P (y ∷ xs) zero x each at = subst P (some_same at) each.0
each_at P (y ∷ xs) (suc i) x each at = each_at P xs i x each.1 at

pub this_near : (g : Ground) (start : ℕ) (f : Spots) (k : Kind) (b : ℕ) (p : Posed) (n : ℕ) (s : DynState) (m : Memory) → IsFrame g start f → f.base ≤ b → Stands g s
    → Remembers m s → (this_low g k f b f.this).place < b + width g
this_near g start f k b p n s m frame above still memory = by f.this refl
  where
    by : (o : Option ℕ) → f.this ≡ o → (this_low g k f b o).place < b + width g
    by (Some x) is = let below = frame.this_below x is in let ordered = frame.flags.ordered in omega arith
    by None is = let far = frame.flags.still in let ordered = frame.flags.ordered in (null_there p n g b m s k (omega arith) still memory).near

pub this_shows : (p : Posed) (n : ℕ) (g : Ground) (start : ℕ) (f : Spots) (k : Kind) (b : ℕ) (s : DynState) (m : Memory) (v : Value) (this : Option ℕ) → moving g ≤ b → Stands g s
    → Remembers m s → ThisIs this v s
    → Shows (this_low g k f b this).throws start f s (HasGiven b (this_low g k f b this).place s) (Gives v m) (go p n (this_low g k f b this).steps s)
this_shows p n g start f k b s m v (Some x) low still memory is = stays false start b x f m s v is.0 memory
this_shows p n g start f k b s m v None low still memory is =
    subst (λ w. Shows (null_at g b k).throws start f s (HasGiven b (null_at g b k).place s) (Gives w m) (go p n (null_at g b k).steps s)) (sym is)
    (null_shows p n g start f k b s m low still memory)

pub found_near : (g : Ground) (start : ℕ) (f : Spots) (b i : ℕ) → IsFrame g start f → f.base ≤ b → (found b (slice_get f.locals i)).place < b + width g
found_near g start f b i frame above = by (slice_get f.locals i) refl
  where
    by : (o : Option ℕ) → slice_get f.locals i ≡ o → (found b o).place < b + width g
    by (Some x) at =
        let below = each_at (λ y. (start ≤ y) × (y < f.base) × (y ≡ f.done → ⊥) × (y ≡ f.thrown → ⊥) × (y ≡ f.result → ⊥)) f.locals i x frame.locals at in
        let low = below.1 in
        omega arith
    by None at = omega arith

found_shows : (p : Posed) (n start : ℕ) (f : Spots) (b : ℕ) (s : DynState) (m : Memory) (o : Option ℕ) → Remembers m s
    → Shows (found b o).throws start f s (HasGiven b (found b o).place s) (gives_in (option_map (var_at s.vars) o) m) (go p n (found b o).steps s)
found_shows p n start f b s m (Some x) memory = stays false start b x f m s (var_at s.vars x) refl memory
found_shows p n start f b s m None memory = goes_nowhere p n false start f s s (HasGiven b b s)

pub local_shows : (p : Posed) (n : ℕ) (g : Ground) (start : ℕ) (f : Spots) (b i : ℕ) (s : DynState) (fr : Frame) (m : Memory) → IsReady g f fr m s
    → Shows (found b (slice_get f.locals i)).throws start f s (HasGiven b (found b (slice_get f.locals i)).place s) (gives_in (slice_get fr.locals i) m)
    (go p n (found b (slice_get f.locals i)).steps s)
local_shows p n g start f b i s fr m ready =
    subst (λ o. Shows (found b (slice_get f.locals i)).throws start f s (HasGiven b (found b (slice_get f.locals i)).place s) (gives_in o m)
    (go p n (found b (slice_get f.locals i)).steps s))
    (sym (slice_get-map (var_at s.vars) f.locals i) ∙ ap (λ vs. slice_get vs i) ready.locals)
    (found_shows p n start f b s m (slice_get f.locals i) ready.opened.memory)

-- ## one operand

pub neg_is : (w : ℕ) (v : Value) → operated op.Sub w (Num (pos 0)) v ≡ negative w v
neg_is w Null = refl
neg_is w (Obj o) = refl
neg_is w (Num z) = ap (number w) (+ℤ_idl (neg_ℤ z))
neg_is w (Flag b) = refl

pub one_shows : (p : Posed) (n : ℕ) (g : Ground) (k : Kind) (a : Low) (d : Code) (r : ℕ) (act : Act) (seen : Value → Seen) (start : ℕ) (f : Spots) (b : ℕ) (s : DynState)
    (fr : Frame) (m : Memory)
    → Claim p n g a d → IsFrame g start f → f.base ≤ b → IsReady g f fr m s → b ≤ r
    → ((v : Value) → IsDefined (seen v)) → ((u : DynState) → Stands g u → acted p act u ≡ with_given r u (seen (var_at u.vars (a.low k f b).place)))
    → Shows (a.low k f b).throws start f s (HasGiven b r s) (then_with (d fr m) (λ v h. ends_as h (seen v))) (go p n (after_one f (a.low k f b) r act).steps s)
one_shows p n g k a d r act seen start f b s fr m claim frame above ready far defined is =
    operand_then p n g a d false x.throws start f k b s s fr m (HasGiven b r s) (λ v h. ends_as h (seen v)) (guarded f x.throws (l.Do act ∷ []))
    claim frame above (kept_same start s) ready (guard_skips p n f x.throws (l.Do act ∷ [])) (λ t. t)
    (λ v h u given now.
    subst (Shows x.throws start f s (HasGiven b r s) (ends_as h (seen v))) (sym (guard_opens p n f x.throws (l.Do act ∷ []) u now.opened.done))
    (shows_from x.throws start b f s u (HasGiven b r u) (HasGiven b r s) (ends_as h (seen v)) (go p n (l.Do act ∷ []) u) (let ordered = frame.flags.ordered in omega arith) given.kept
    (λ w i t last. given_from b b r s u t w i (omega arith) given.kept last)
    (did p n x.throws start b r f h u act (seen v) (is u now.opened.still ∙ ap (λ w. with_given r u (seen w)) given.value) (defined v) far now.opened.memory)))
  where
    x : Lowered
    x = a.low k f b

-- ## fields

-- a value that may be missing
gives_shows : (t : Bool) (start b r : ℕ) (f : Spots) (m : Memory) (s : DynState) (o : Option Value) → b ≤ r → Remembers m s
    → Shows t start f s (HasGiven b r s) (gives_in o m) (with_given r s (value_in o))
gives_shows t start b r f m s (Some v) above memory = record { memory = memory; value = var_set s.vars r v; kept = kept_set b r v s above }
gives_shows t start b r f m s None above memory = tt

cell_shows : (t : Bool) (start b r : ℕ) (f : Spots) (m : Memory) (s : DynState) (classes : List ClassDef) (i : ℕ) (o : Option Object) → b ≤ r → Remembers m s
    → Shows t start f s (HasGiven b r s) (gives_in (option_and_then (cell classes i) o) m) (with_given r s (cell_of classes i o))
cell_shows t start b r f m s classes i (Some x) above memory = gives_shows t start b r f m s (cell classes i x) above memory
cell_shows t start b r f m s classes i None above memory = tt

pub field_shows : (p : Posed) (n : ℕ) (t : Bool) (start b r x i o : ℕ) (f : Spots) (m : Memory) (s : DynState) → b ≤ r → Remembers m s → var_at s.vars x ≡ Obj o
    → Shows t start f s (HasGiven b r s) (read p i o m) (go p n (l.Do (Read r x i) ∷ []) s)
field_shows p n t start b r x i o f m s above memory is =
    subst (Shows t start f s (HasGiven b r s) (read p i o m))
    (sym (go_one p n (l.Do (Read r x i)) s ∙ next_do p n (Read r x i) s ∙ ap (λ v. with_given r s (field p.unit.classes s.objects i v)) is))
    (subst (λ h. Shows t start f s (HasGiven b r s) (gives_in (option_and_then (cell p.unit.classes i) (slice_get h o)) m)
    (with_given r s (cell_of p.unit.classes i (slice_get s.objects o)))) memory
    (cell_shows t start b r f m s p.unit.classes i (slice_get s.objects o) above memory))

pub read_shows : (p : Posed) (n : ℕ) (g : Ground) (a : Low) (d : Code) (i start : ℕ) (f : Spots) (b : ℕ) (s : DynState) (fr : Frame) (m : Memory)
    → Claim p n g a d → IsFrame g start f → f.base ≤ b → IsReady g f fr m s
    → Shows (read_low g i f b (a.low (kind.Ref (class_of_field g i)) f b)).throws start f s (HasGiven b (b + slot g (kind_of_field g i)) s)
    (then_with (d fr m) (on_object (read p i))) (go p n (read_low g i f b (a.low (kind.Ref (class_of_field g i)) f b)).steps s)
read_shows p n g a d i start f b s fr m claim frame above ready =
    operand_then p n g a d false t start f k b s s fr m (HasGiven b r s) (on_object (read p i)) (guarded f x.throws rest)
    claim frame above (kept_same start s) ready (guard_skips p n f x.throws rest) (or_left x.throws (not (is_receiver f x.place)))
    (λ v h u given now.
    subst (Shows t start f s (HasGiven b r s) (on_object (read p i) v h)) (sym (guard_opens p n f x.throws rest u now.opened.done))
    (shows_from t start b f s u (HasGiven b r u) (HasGiven b r s) (on_object (read p i) v h) (go p n rest u) (let ordered = frame.flags.ordered in omega arith) given.kept
    (λ w j q last. given_from b b r s u q w j (omega arith) given.kept last)
    (through_shows p n g t start b2 f (class_of_field g i) x.place h u fr.this v (HasGiven b r u) (read p i) act (or_right x.throws (not (is_receiver f x.place)))
    frame.flags (let far = x_behind.0 in omega arith) now.opened now.this given.value x_behind.1
    (λ o q is memory kept.
    shows_from t start b2 f u q (HasGiven b r q) (HasGiven b r u) (read p i o h) (go p n act q) (let far = x_behind.0 in let ordered = frame.flags.ordered in omega arith) kept
    (λ w j z last. given_from b b r u q z w j (omega arith) (λ y low. kept y (let far = x_behind.0 in omega arith)) last)
    (field_shows p n t start b r x.place i o f h q (omega arith) memory (kept x.place x_behind.1 ∙ given.value ∙ is))))))
  where
    k : Kind
    k = kind.Ref (class_of_field g i)

    x : Lowered
    x = a.low (kind.Ref (class_of_field g i)) f b

    b2 : ℕ
    b2 = behind g b (a.low (kind.Ref (class_of_field g i)) f b).place

    r : ℕ
    r = b + slot g (kind_of_field g i)

    t : Bool
    t = (a.low (kind.Ref (class_of_field g i)) f b).throws || not (is_receiver f (a.low (kind.Ref (class_of_field g i)) f b).place)

    act : List Plan
    act = l.Do (Read (b + slot g (kind_of_field g i)) (a.low (kind.Ref (class_of_field g i)) f b).place i) ∷ []

    rest : List Plan
    rest = through g f (behind g b (a.low (kind.Ref (class_of_field g i)) f b).place) (class_of_field g i) (a.low (kind.Ref (class_of_field g i)) f b).place
        (l.Do (Read (b + slot g (kind_of_field g i)) (a.low (kind.Ref (class_of_field g i)) f b).place i) ∷ [])

    x_behind : (b ≤ behind g b (a.low (kind.Ref (class_of_field g i)) f b).place) ×
        ((a.low (kind.Ref (class_of_field g i)) f b).place < behind g b (a.low (kind.Ref (class_of_field g i)) f b).place)
    x_behind = behind_above g b (a.low (kind.Ref (class_of_field g i)) f b).place (claim.near start f (kind.Ref (class_of_field g i)) b frame above)

-- ## new objects

pub make_shows : (p : Posed) (n : ℕ) (t : Bool) (start b r c : ℕ) (f : Spots) (m : Memory) (s : DynState) → b ≤ r → Remembers m s
    → Shows t start f s (HasGiven b r s) (make p c m) (go p n (l.Do (Make r c) ∷ []) s)
make_shows p n t start b r c f m s above memory =
    subst (Shows t start f s (HasGiven b r s) (make p c m)) (sym (go_one p n (l.Do (Make r c)) s ∙ next_do p n (Make r c) s))
    (subst (λ h. Shows t start f s (HasGiven b r s) (with_heap (Obj (length h)) (grown p h c) m)
    (option_map (λ h. record { vars = with_var s.vars r (Obj (length s.objects)); objects = h }) (grown p s.objects c))) memory (by (grown p s.objects c)))
  where
    by : (o : Option Heap) → Shows t start f s (HasGiven b r s) (with_heap (Obj (length s.objects)) o m)
        (option_map (λ h. record { vars = with_var s.vars r (Obj (length s.objects)); objects = h }) o)
    by (Some h) = record { memory = refl; value = var_set s.vars r (Obj (length s.objects)); kept = kept_set b r (Obj (length s.objects)) s above }
    by None = tt

-- ## truth values

-- a branch on the value of a test
pub test_shows : (p : Posed) (n : ℕ) (t : Bool) (start : ℕ) (f : Spots) (s u : DynState) (x : ℕ) (v : Value) (m : Memory) {B : Type 0} (R : B → Memory → DynState → Type 0)
    (k : Bool → Memory → Ends B) (taken other : List Plan)
    → var_at u.vars x ≡ v → Shows t start f s R (k true m) (go p n taken u) → Shows t start f s R (k false m) (go p n other u)
    → Shows t start f s R (on_test k v m) (go p n (l.If x taken other ∷ []) u)
test_shows p n t start f s u x v m R k taken other is one two =
    subst (Shows t start f s R (on_test k v m)) (sym (go_one p n (l.If x taken other) u ∙ next_if p n x taken other u ∙ ap (λ w. by_flag w (go p n taken u) (go p n other u)) is)) (by v)
  where
    by : (v : Value) → Shows t start f s R (on_test k v m) (by_flag v (go p n taken u) (go p n other u))
    by (Flag true) = one
    by (Flag false) = two
    by Null = tt
    by (Obj o) = tt
    by (Num z) = tt

as_flag_is : (v : Value) (m : Memory) → on_test (λ b n. Gives (Flag b) n) v m ≡ ends_as m (same v (Flag true))
as_flag_is (Flag true) m = refl
as_flag_is (Flag false) m = refl
as_flag_is Null m = refl
as_flag_is (Obj o) m = refl
as_flag_is (Num z) m = refl

pub truth_shows : (p : Posed) (n : ℕ) (g : Ground) (k : Kind) (c : Low) (e : Code) (start : ℕ) (f : Spots) (b : ℕ) (s u : DynState) (fr : Frame) (m : Memory)
    → Claim p n g c e → IsFrame g start f → f.base ≤ b → IsKept b s u → IsReady g f fr m u
    → Shows (c.low k f b).throws start f s (HasGiven b (b + 1) s) (as_test (e fr m)) (go p n (as_truth g f (b + 1) (c.low k f b)) u)
truth_shows p n g k c e start f b s u fr m claim frame above kept ready =
    operand_then p n g c e false y.throws start f k b s u fr m (HasGiven b (b + 1) s) (on_test (λ b n. Gives (Flag b) n)) (guarded f y.throws act)
    claim frame above (λ z low. kept z (let ordered = frame.flags.ordered in omega arith)) ready (guard_skips p n f y.throws act) (λ t. t)
    (λ v h q given now.
    subst (Shows y.throws start f s (HasGiven b (b + 1) s) (on_test (λ b n. Gives (Flag b) n) v h)) (sym (guard_opens p n f y.throws act q now.opened.done))
    (subst (λ z. Shows y.throws start f s (HasGiven b (b + 1) s) z (go p n act q)) (sym (as_flag_is v h))
    (shows_from y.throws start b f s q (HasGiven b (b + 1) q) (HasGiven b (b + 1) s) (ends_as h (same v (Flag true))) (go p n act q) (let ordered = frame.flags.ordered in omega arith)
    (kept_then b b b s u q (omega arith) (omega arith) kept given.kept)
    (λ w j z last. given_from b b (b + 1) s q z w j (omega arith) (kept_then b b b s u q (omega arith) (omega arith) kept given.kept) last)
    (did p n y.throws start b (b + 1) f h q (Same (b + 1) y.place (flag_of g true)) (same v (Flag true)) (rw (given.value, now.opened.still.flags true) refl)
    (same_defined v (Flag true)) (omega arith) now.opened.memory))))
  where
    y : Lowered
    y = c.low k f b

    act : List Plan
    act = l.Do (Same (b + 1) (c.low k f b).place (flag_of g true)) ∷ []

-- the left operand, and then one of two
pub short_shows : (p : Posed) (n : ℕ) (g : Ground) (a : Low) (d : Code) (start : ℕ) (f : Spots) (b : ℕ) (s : DynState) (fr : Frame) (m : Memory) (throws : Bool)
    (on : Bool → Memory → Ends Value) (taken other : List Plan)
    → Claim p n g a d → IsFrame g start f → f.base ≤ b → IsReady g f fr m s
    → ((h : Memory) (u : DynState) → IsKept b s u → IsReady g f fr h u → Shows throws start f s (HasGiven b (b + 1) s) (on true h) (go p n taken u))
    → ((h : Memory) (u : DynState) → IsKept b s u → IsReady g f fr h u → Shows throws start f s (HasGiven b (b + 1) s) (on false h) (go p n other u))
    → Shows (short g f b (a.low kind.Flag f b) throws taken other).throws start f s (HasGiven b (b + 1) s) (then_test (d fr m) on)
    (go p n (short g f b (a.low kind.Flag f b) throws taken other).steps s)
short_shows p n g a d start f b s fr m throws on taken other claim frame above ready one two =
    operand_then p n g a d false t start f kind.Flag b s s fr m (HasGiven b (b + 1) s) (on_test on) (guarded f x.throws branch)
    claim frame above (kept_same start s) ready (guard_skips p n f x.throws branch) (or_left x.throws throws)
    (λ v h u given now.
    subst (Shows t start f s (HasGiven b (b + 1) s) (on_test on v h)) (sym (guard_opens p n f x.throws branch u now.opened.done))
    (test_shows p n t start f s u x.place v h (HasGiven b (b + 1) s) on taken other given.value
    (weaker throws t start f s (HasGiven b (b + 1) s) (on true h) (go p n taken u) (or_right x.throws throws) (one h u given.kept now))
    (weaker throws t start f s (HasGiven b (b + 1) s) (on false h) (go p n other u) (or_right x.throws throws) (two h u given.kept now))))
  where
    x : Lowered
    x = a.low kind.Flag f b

    t : Bool
    t = (a.low kind.Flag f b).throws || throws

    branch : List Plan
    branch = l.If (a.low kind.Flag f b).place taken other ∷ []

-- the truth value that decides
pub decided_shows : (p : Posed) (n : ℕ) (t : Bool) (start b : ℕ) (f : Spots) (s u : DynState) (h : Memory) (c : Bool) → start ≤ b → IsKept b s u → Remembers h u
    → Shows t start f s (HasGiven b (b + 1) s) (Gives (Flag c) h) (go p n (l.Do (Const (b + 1) (Flag c)) ∷ []) u)
decided_shows p n t start b f s u h c low kept memory =
    shows_from t start b f s u (HasGiven b (b + 1) u) (HasGiven b (b + 1) s) (Gives (Flag c) h) (go p n (l.Do (Const (b + 1) (Flag c)) ∷ []) u) low kept
    (λ w j z last. given_from b b (b + 1) s u z w j (omega arith) kept last)
    (did p n t start b (b + 1) f h u (Const (b + 1) (Flag c)) (Is (Flag c)) refl tt (omega arith) memory)

pub combined_shows : (p : Posed) (n : ℕ) (g : Ground) (o : Op) (a c : Low) (d e : Code) (start : ℕ) (f : Spots) (b : ℕ) (s : DynState) (fr : Frame) (m : Memory)
    → Claim p n g a d → Claim p n g c e → IsFrame g start f → f.base ≤ b → IsReady g f fr m s
    → Shows (combined_low g o a c f b).throws start f s (HasGiven b (combined_low g o a c f b).place s) (combined o p.scope.ints d e fr m) (go p n (combined_low g o a c f b).steps s)
combined_shows p n g op.And a c d e start f b s fr m one two frame above ready =
    short_shows p n g a d start f b s fr m (c.low kind.Flag f b).throws (λ x h. if x then as_test (e fr h) else Gives (Flag false) h) (as_truth g f (b + 1) (c.low kind.Flag f b))
    (l.Do (Const (b + 1) (Flag false)) ∷ [])
    one frame above ready
    (λ h u kept now. truth_shows p n g kind.Flag c e start f b s u fr h two frame above kept now)
    (λ h u kept now. decided_shows p n (c.low kind.Flag f b).throws start b f s u h false (let ordered = frame.flags.ordered in omega arith) kept now.opened.memory)
combined_shows p n g op.Or a c d e start f b s fr m one two frame above ready =
    short_shows p n g a d start f b s fr m (c.low kind.Flag f b).throws (λ x h. if x then Gives (Flag true) h else as_test (e fr h)) (l.Do (Const (b + 1) (Flag true)) ∷ [])
    (as_truth g f (b + 1) (c.low kind.Flag f b))
    one frame above ready
    (λ h u kept now. decided_shows p n (c.low kind.Flag f b).throws start b f s u h true (let ordered = frame.flags.ordered in omega arith) kept now.opened.memory)
    (λ h u kept now. truth_shows p n g kind.Flag c e start f b s u fr h two frame above kept now)
combined_shows p n g op.Add a c d e start f b s fr m one two frame above ready = both_claim p n g op.Add (operand_kind op.Add f a c) a c d e start f b s fr m one two frame above ready
combined_shows p n g op.Sub a c d e start f b s fr m one two frame above ready = both_claim p n g op.Sub (operand_kind op.Sub f a c) a c d e start f b s fr m one two frame above ready
combined_shows p n g op.Mul a c d e start f b s fr m one two frame above ready = both_claim p n g op.Mul (operand_kind op.Mul f a c) a c d e start f b s fr m one two frame above ready
combined_shows p n g op.Eq a c d e start f b s fr m one two frame above ready = both_claim p n g op.Eq (operand_kind op.Eq f a c) a c d e start f b s fr m one two frame above ready
combined_shows p n g op.Ne a c d e start f b s fr m one two frame above ready = both_claim p n g op.Ne (operand_kind op.Ne f a c) a c d e start f b s fr m one two frame above ready
combined_shows p n g op.Lt a c d e start f b s fr m one two frame above ready = both_claim p n g op.Lt (operand_kind op.Lt f a c) a c d e start f b s fr m one two frame above ready
combined_shows p n g op.Le a c d e start f b s fr m one two frame above ready = both_claim p n g op.Le (operand_kind op.Le f a c) a c d e start f b s fr m one two frame above ready
combined_shows p n g op.Gt a c d e start f b s fr m one two frame above ready = both_claim p n g op.Gt (operand_kind op.Gt f a c) a c d e start f b s fr m one two frame above ready
combined_shows p n g op.Ge a c d e start f b s fr m one two frame above ready = both_claim p n g op.Ge (operand_kind op.Ge f a c) a c d e start f b s fr m one two frame above ready
combined_shows p n g op.Implies a c d e start f b s fr m one two frame above ready = both_claim p n g op.Implies (operand_kind op.Implies f a c) a c d e start f b s fr m one two
    frame above ready
combined_shows p n g op.Iff a c d e start f b s fr m one two frame above ready = both_claim p n g op.Iff (operand_kind op.Iff f a c) a c d e start f b s fr m one two frame above ready

-- Expressions without calls: what their steps show.
use Rattle.std.proofs.Common.{◌≡◌, ℕ, ◌+◌, ◌<◌, ◌≤◌, Bool, true, false, List, [], ◌∷◌, ◌++◌, Some, refl, sym, ◌∙◌, subst, arith}
use Rattle.std.specs.Prelude.{◌||◌, nat_lt, if◌then◌else◌, length}
use Rattle.std.proofs.lemmas.Bool.{false≢true}
use Rattle.std.proofs.lemmas.Bool.Decides.{nat_tests}
use Rattle.taco_unit.specs.declared.kind.Kind.{Kind}
use Rattle.taco_unit.specs.declared.kind.Kind.TheVariants as kind
use Rattle.taco_unit.specs.declared.expr.Op.{Op}
use Rattle.heap_core.specs.declared.value.Value.{Value}
use Rattle.heap_core.specs.Posed.{Posed}
use Rattle.heap_core.specs.Outcomes.{operated}
use Rattle.heap_core.specs.Exec.{Memory, Ends, Gives, Leaves, Frame, Code, then_with, ends_as}
use Rattle.dyn_core.specs.declared.state.DynState.{DynState}
use Rattle.dyn_core.specs.States.{var_at}
use Rattle.dyn_plan.specs.declared.plan.Plan.{Plan}
use Rattle.dyn_plan.specs.declared.plan.Plan.TheVariants as l
use Rattle.dyn_plan.specs.Plans.{go}
use Rattle.dyn_plan.specs.Places.{Ground, Spots, width, slot, behind}
use Rattle.dyn_plan.specs.Guards.{Lowered, guarded}
use Rattle.dyn_plan.specs.Expressions.{Low, kind_of_op, operation, behind_both, after_both}
use Rattle.dyn_plan.proofs.PlanForms.{next_fail}
use Rattle.dyn_plan.proofs.Shown.{IsKept, kept_same, kept_then, moving, Remembers, IsFrame, IsReady, HasGiven}
use Rattle.dyn_plan.proofs.Shown.{Shows, shows_from, then_shows, ready_on, go_one, Skips, skips_both, guard_skips, guard_opens}
use Rattle.dyn_plan.proofs.Operations.{operation_shows}

-- ## rows

pub slot_below : (g : Ground) (k : Kind) → slot g k < width g
slot_below g kind.Int = omega arith
slot_below g kind.Flag = omega arith
slot_below g (kind.Ref c) = by (nat_lt c (length g.unit.classes)) refl
  where
    by : (t : Bool) → nat_lt c (length g.unit.classes) ≡ t → (if t then 2 + c else 0) < width g
    by true is = let few : c < length g.unit.classes = grind (arith, nat_tests, is) in omega arith
    by false is = omega arith

pub behind_above : (g : Ground) (b x : ℕ) → x < b + width g → (b ≤ behind g b x) × (x < behind g b x)
behind_above g b x near = by (nat_lt x b) refl
  where
    by : (t : Bool) → nat_lt x b ≡ t → (b ≤ (if t then b else b + width g)) × (x < (if t then b else b + width g))
    by true is = (omega arith, grind (arith, nat_tests, is))
    by false is = (omega arith, near)

pub or_left : (t u : Bool) → t ≡ true → (t || u) ≡ true
or_left true u is = refl
or_left false u is = absurd (false≢true is)

pub or_right : (t u : Bool) → u ≡ true → (t || u) ≡ true
or_right true u is = refl
or_right false u is = is

-- ## claims

-- the lowered expression shows the value, from every ready state
pub record Claim (p : Posed) (n : ℕ) (g : Ground) (l : Low) (c : Code) : Type 0 where
  pub near : (start : ℕ) (f : Spots) (k : Kind) (b : ℕ) → IsFrame g start f → f.base ≤ b → (l.low k f b).place < b + width g
  pub shows : (start : ℕ) (f : Spots) (k : Kind) (b : ℕ) (s : DynState) (fr : Frame) (m : Memory)
      → IsFrame g start f → f.base ≤ b → IsReady g f fr m s
      → Shows (l.low k f b).throws start f s (HasGiven b (l.low k f b).place s) (c fr m) (go p n (l.low k f b).steps s)

-- an operand, and then what comes behind it
pub operand_then : (p : Posed) (n : ℕ) (g : Ground) (low : Low) (c : Code) (before t : Bool) (start : ℕ) (f : Spots) (k : Kind) (b : ℕ) (s u : DynState) (fr : Frame)
    (m : Memory) {B : Type 0} (R : B → Memory → DynState → Type 0) (on : Value → Memory → Ends B) (rest : List Plan)
    → Claim p n g low c → IsFrame g start f → f.base ≤ b → IsKept start s u → IsReady g f fr m u
    → ((low.low k f b).throws ≡ true → Skips p n f rest) → ((low.low k f b).throws ≡ true → t ≡ true)
    → ((v : Value) (h : Memory) (r : DynState) → HasGiven b (low.low k f b).place u v h r → IsReady g f fr h r → Shows t start f s R (on v h) (go p n rest r))
    → Shows t start f s R (then_with (c fr m) on) (go p n (guarded f before (low.low k f b).steps ++ rest) u)
operand_then p n g low c before t start f k b s u fr m R on rest claim frame above kept ready skips more later =
    then_shows p n (low.low k f b).throws t start f s u (HasGiven b (low.low k f b).place u) R (c fr m) on (guarded f before (low.low k f b).steps) rest skips more first
    (λ v h r given. later v h r given (ready_on g start b f fr m h u r frame above ready given.memory given.kept))
  where
    first : Shows (low.low k f b).throws start f s (HasGiven b (low.low k f b).place u) (c fr m) (go p n (guarded f before (low.low k f b).steps) u)
    first =
        subst (Shows (low.low k f b).throws start f s (HasGiven b (low.low k f b).place u) (c fr m)) (sym (guard_opens p n f before (low.low k f b).steps u ready.opened.done))
        (shows_from (low.low k f b).throws start start f s u (HasGiven b (low.low k f b).place u) (HasGiven b (low.low k f b).place u) (c fr m) (go p n (low.low k f b).steps u)
        (omega arith) kept (λ v h r given. given)
        (claim.shows start f k b u fr m frame above ready))

-- a value that stands there already
pub stays : (t : Bool) (start b x : ℕ) (f : Spots) (m : Memory) (s : DynState) (v : Value) → var_at s.vars x ≡ v → Remembers m s → Shows t start f s (HasGiven b x s) (Gives v m) (Some s)
stays t start b x f m s v is memory = record { memory = memory; value = is; kept = kept_same b s }

pub goes_nowhere : (p : Posed) (n : ℕ) (t : Bool) (start : ℕ) (f : Spots) (s u : DynState) {A : Type 0} (Q : A → Memory → DynState → Type 0)
    → Shows t start f s Q Leaves (go p n (l.Fail ∷ []) u)
goes_nowhere p n t start f s u Q = subst (Shows t start f s Q Leaves) (sym (go_one p n l.Fail u ∙ next_fail p n u)) tt

-- ## operands

-- what is given at a later state is given from the first
pub given_from : (b c x : ℕ) (s u t : DynState) (v : Value) (m : Memory) → b ≤ c → IsKept b s u → HasGiven c x u v m t → HasGiven b x s v m t
given_from b c x s u t v m low kept given = record { memory = given.memory; value = given.value; kept = kept_then b b c s u t (omega arith) low kept given.kept }

-- both operands, and the operation
pub both_claim : (p : Posed) (n : ℕ) (g : Ground) (o : Op) (k : Kind) (a c : Low) (d e : Code) (start : ℕ) (f : Spots) (b : ℕ) (s : DynState) (fr : Frame) (m : Memory)
    → Claim p n g a d → Claim p n g c e → IsFrame g start f → f.base ≤ b → IsReady g f fr m s
    → Shows (after_both g o f b (a.low k f b) (c.low k f (behind g b (a.low k f b).place))).throws start f s (HasGiven b (b + slot g (kind_of_op o)) s)
    (then_with (d fr m) (λ v h. then_with (e fr h) (λ w j. ends_as j (operated o p.scope.ints v w))))
    (go p n (after_both g o f b (a.low k f b) (c.low k f (behind g b (a.low k f b).place))).steps s)
both_claim p n g o k a c d e start f b s fr m one two frame above ready =
    operand_then p n g a d false (x.throws || y.throws) start f k b s s fr m (HasGiven b r s) (λ v h. then_with (e fr h) (λ w j. ends_as j (operated o p.scope.ints v w)))
    (guarded f x.throws y.steps ++ last)
    one frame above (kept_same start s) ready
    (λ is. skips_both p n f (guarded f x.throws y.steps) last (guard_skips p n f x.throws y.steps is) (guard_skips p n f (x.throws || y.throws) act (or_left x.throws y.throws is)))
    (or_left x.throws y.throws)
    (λ v h u given now.
    operand_then p n g c e x.throws (x.throws || y.throws) start f k b2 s u fr h (HasGiven b r s) (λ w j. ends_as j (operated o p.scope.ints v w)) last
    two frame base_further (λ z below. given.kept z (omega (arith, base_above))) now
    (λ is. guard_skips p n f (x.throws || y.throws) act (or_right x.throws y.throws is))
    (or_right x.throws y.throws)
    (λ w j q last_given ending. at v w j q
    (λ z low. last_given.kept z (let far = x_behind.0 in omega arith) ∙ given.kept z low)
    (last_given.kept x.place x_behind.1 ∙ given.value) last_given.value ending))
  where
    x : Lowered
    x = a.low k f b

    b2 : ℕ
    b2 = behind g b (a.low k f b).place

    y : Lowered
    y = c.low k f (behind g b (a.low k f b).place)

    r : ℕ
    r = b + slot g (kind_of_op o)

    x_near : (a.low k f b).place < b + width g
    x_near = one.near start f k b frame above

    x_behind : (b ≤ behind g b (a.low k f b).place) × ((a.low k f b).place < behind g b (a.low k f b).place)
    x_behind = behind_above g b (a.low k f b).place x_near

    base_further : f.base ≤ behind g b (a.low k f b).place
    base_further = let far = x_behind.0 in omega arith

    y_near : (c.low k f (behind g b (a.low k f b).place)).place < behind g b (a.low k f b).place + width g
    y_near = two.near start f k (behind g b (a.low k f b).place) frame base_further

    y_behind : (behind g b (a.low k f b).place ≤ behind_both g b (a.low k f b) (c.low k f (behind g b (a.low k f b).place))) ×
        ((c.low k f (behind g b (a.low k f b).place)).place < behind_both g b (a.low k f b) (c.low k f (behind g b (a.low k f b).place)))
    y_behind = behind_above g (behind g b (a.low k f b).place) (c.low k f (behind g b (a.low k f b).place)).place y_near

    base_above : start ≤ b
    base_above = let ordered = frame.flags.ordered in omega arith

    still_below : moving g ≤ b
    still_below = let far = frame.flags.still in let ordered = frame.flags.ordered in omega arith

    act : List Plan
    act = operation g o (b + slot g (kind_of_op o)) (behind_both g b (a.low k f b) (c.low k f (behind g b (a.low k f b).place)) + 1) (a.low k f b).place
        (c.low k f (behind g b (a.low k f b).place)).place

    last : List Plan
    last = guarded f ((a.low k f b).throws || (c.low k f (behind g b (a.low k f b).place)).throws) act

    at : (v w : Value) (j : Memory) (q : DynState) → IsKept b s q → var_at q.vars (a.low k f b).place ≡ v → var_at q.vars (c.low k f (behind g b (a.low k f b).place)).place ≡ w
        → IsReady g f fr j q → Shows (x.throws || y.throws) start f s (HasGiven b r s) (ends_as j (operated o p.scope.ints v w)) (go p n last q)
    at v w j q kept first second now =
        subst (Shows (x.throws || y.throws) start f s (HasGiven b r s) (ends_as j (operated o p.scope.ints v w))) (sym (guard_opens p n f (x.throws || y.throws) act q now.opened.done))
        (shows_from (x.throws || y.throws) start b f s q (HasGiven b r q) (HasGiven b r s) (ends_as j (operated o p.scope.ints v w)) (go p n act q) base_above kept
        (λ z i u given. given_from b b r s q u z i (omega arith) kept given)
        (subst (λ z. Shows (x.throws || y.throws) start f q (HasGiven b r q) (ends_as j (operated o p.scope.ints z w)) (go p n act q)) first
        (subst (λ z. Shows (x.throws || y.throws) start f q (HasGiven b r q) (ends_as j (operated o p.scope.ints (var_at q.vars x.place) z)) (go p n act q)) second
        (operation_shows p n g (x.throws || y.throws) start b r (behind_both g b x y + 1) x.place y.place f j q o still_below (omega arith)
        (let far = x_behind.0 in let further = y_behind.0 in omega arith) (λ same. let before = y_behind.1 in omega arith) now.opened.still now.opened.memory))))

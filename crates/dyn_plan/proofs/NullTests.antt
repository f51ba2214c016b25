-- What throws and tests for null show.
use Rattle.std.proofs.Common.{◌≡◌, ℕ, ◌+◌, ◌<◌, ◌≤◌, Bool, true, false, not, List, [], ◌∷◌, Option, Some, None, refl, sym, ◌∙◌, ap, subst, arith}
use Rattle.std.specs.Prelude.{◌==◌, if◌then◌else◌, option_and_then}
use Rattle.std.specs.Option.{option_map_or}
use Rattle.std.proofs.lemmas.Bool.{false≢true, eqb-true}
use Rattle.taco_unit.specs.declared.kind.Kind.TheVariants as kind
use Rattle.heap_core.specs.declared.value.Value.{Value}
use Rattle.heap_core.specs.declared.value.Value.TheVariants.{Null, Obj, Num, Flag}
use Rattle.heap_core.specs.Posed.{Posed}
use Rattle.heap_core.specs.Outcomes.{same}
use Rattle.heap_core.specs.Exec.{Memory, Ends, Throws, on_object}
use Rattle.dyn_core.specs.declared.prog.Act.TheVariants.{Const, Same}
use Rattle.dyn_core.specs.declared.state.DynState.{DynState}
use Rattle.dyn_core.specs.States.{var_at, with_var}
use Rattle.dyn_core.specs.Actions.{with_given}
use Rattle.dyn_core.proofs.Vars.{var_set, var_apart}
use Rattle.dyn_plan.specs.declared.plan.Plan.{Plan}
use Rattle.dyn_plan.specs.declared.plan.Plan.TheVariants as l
use Rattle.dyn_plan.specs.Plans.{by_flag, go}
use Rattle.dyn_plan.specs.Places.{Ground, Spots, is_receiver}
use Rattle.dyn_plan.specs.Guards.{throw, null_at, null_test, through}
use Rattle.dyn_plan.proofs.PlanForms.{next_if}
use Rattle.dyn_plan.proofs.Shown.{set, IsKept, kept_set, kept_same, kept_then, Remembers, ThisIs, HasFlags, IsOpen, Shows, go_one, go_append}
use Rattle.dyn_plan.proofs.Operations.{go_do, NullThere, null_there}

-- the frame throws
pub throw_shows : (p : Posed) (n : ℕ) (g : Ground) (start : ℕ) (f : Spots) (m : Memory) (s u : DynState) {B : Type 0} (R : B → Memory → DynState → Type 0)
    → HasFlags g start f → Remembers m u → IsKept start s u → Shows true start f s R (Throws m) (go p n (throw f) u)
throw_shows p n g start f m s u R flags memory kept =
    subst (Shows true start f s R (Throws m)) (sym leads) (
      refl,
      record {
        memory = memory;
        done = var_apart (with_var u.vars f.done (Flag true)) f.thrown (Flag true) f.done flags.apart ∙ var_set u.vars f.done (Flag true);
        thrown = var_set (with_var u.vars f.done (Flag true)) f.thrown (Flag true);
        kept = kept_then start start start s u last (omega arith) (omega arith) kept
            (kept_then start start start u (set f.done (Flag true) u) last (omega arith) (omega arith)
            (kept_set start f.done (Flag true) u flags.done_above) (kept_set start f.thrown (Flag true) (set f.done (Flag true) u) flags.thrown_above));
      },
    )
  where
    last : DynState
    last = set f.thrown (Flag true) (set f.done (Flag true) u)

    leads : go p n (throw f) u ≡ Some (set f.thrown (Flag true) (set f.done (Flag true) u))
    leads =
        go_do p n (Const f.done (Flag true)) (l.Do (Const f.thrown (Flag true)) ∷ []) u
        ∙ go_do p n (Const f.thrown (Flag true)) [] (set f.done (Flag true) u)

-- on from an object, at any later state of the same memory
abbrev pub OnObject : Posed → ℕ → Bool → ℕ → ℕ → Spots → Memory → DynState → Value → {B : Type 0} → (B → Memory → DynState → Type 0) → (ℕ → Memory → Ends B) → List Plan → Type 0
OnObject p n t start b f m s v R k steps = (o : ℕ) (u : DynState) → v ≡ Obj o → Remembers m u → IsKept b s u → Shows t start f s R (k o m) (go p n steps u)

pub null_test_shows : (p : Posed) (n : ℕ) (g : Ground) (start b : ℕ) (f : Spots) (class x : ℕ) (m : Memory) (s : DynState) (v : Value) {B : Type 0}
    (R : B → Memory → DynState → Type 0) (k : ℕ → Memory → Ends B) (steps : List Plan)
    → HasFlags g start f → f.base ≤ b → IsOpen g f m s → var_at s.vars x ≡ v → x < b
    → OnObject p n true start b f m s v R k steps
    → Shows true start f s R (on_object k v m) (go p n (null_test g f b class x steps) s)
null_test_shows p n g start b f class x m s v {B} R k steps flags low open_ value near on =
    subst (Shows true start f s R (on_object k v m)) (sym leads) (tested v value on)
  where
    null : NullThere p n g b m s (null_at g b (kind.Ref class))
    null = let far = flags.still in let ordered = flags.ordered in null_there p n g b m s (kind.Ref class) (omega arith) open_.still open_.memory

    branch : Plan
    branch = l.If (b + 1) (throw f) steps

    leads : go p n (null_test g f b class x steps) s ≡ option_and_then (go p n (l.If (b + 1) (throw f) steps ∷ [])) (with_given (b + 1) null.state (same (var_at s.vars x) Null))
    leads =
        go_append p n (null_at g b (kind.Ref class)).steps (l.Do (Same (b + 1) x (null_at g b (kind.Ref class)).place) ∷ l.If (b + 1) (throw f) steps ∷ []) s
        ∙ ap (option_and_then (go p n (l.Do (Same (b + 1) x (null_at g b (kind.Ref class)).place) ∷ l.If (b + 1) (throw f) steps ∷ []))) null.leads
        ∙ go_do p n (Same (b + 1) x (null_at g b (kind.Ref class)).place) (l.If (b + 1) (throw f) steps ∷ []) null.state
        ∙ ap (λ w. option_and_then (go p n (l.If (b + 1) (throw f) steps ∷ []))
        (with_given (b + 1) null.state (same w (var_at null.state.vars (null_at g b (kind.Ref class)).place)))) (null.has.kept x near)
        ∙ ap (λ w. option_and_then (go p n (l.If (b + 1) (throw f) steps ∷ [])) (with_given (b + 1) null.state (same (var_at s.vars x) w))) null.has.value

    -- the branch, where the test gave c
    after : (c : Bool) → go p n (l.If (b + 1) (throw f) steps ∷ []) (set (b + 1) (Flag c) null.state) ≡ by_flag (Flag c) (go p n (throw f) (set (b + 1) (Flag c) null.state))
        (go p n steps (set (b + 1) (Flag c) null.state))
    after c =
        go_one p n (l.If (b + 1) (throw f) steps) (set (b + 1) (Flag c) null.state)
        ∙ next_if p n (b + 1) (throw f) steps (set (b + 1) (Flag c) null.state)
        ∙ ap (λ w. by_flag w (go p n (throw f) (set (b + 1) (Flag c) null.state)) (go p n steps (set (b + 1) (Flag c) null.state))) (var_set null.state.vars (b + 1) (Flag c))

    later : (c : Bool) → IsKept b s (set (b + 1) (Flag c) null.state)
    later c = kept_then b b b s null.state (set (b + 1) (Flag c) null.state) (omega arith) (omega arith) null.has.kept (kept_set b (b + 1) (Flag c) null.state (omega arith))

    tested : (v : Value) → var_at s.vars x ≡ v → OnObject p n true start b f m s v R k steps
        → Shows true start f s R (on_object k v m) (option_and_then (go p n (l.If (b + 1) (throw f) steps ∷ [])) (with_given (b + 1) null.state (same (var_at s.vars x) Null)))
    tested Null is on =
        let ordered = flags.ordered in
        rw is
        (subst (Shows true start f s R (Throws m)) (sym (after true))
        (throw_shows p n g start f m s (set (b + 1) (Flag true) null.state) R flags null.has.memory
        (λ y below. later true y (omega arith))))
    tested (Obj o) is on = rw is (subst (Shows true start f s R (k o m)) (sym (after false)) (on o (set (b + 1) (Flag false) null.state) refl null.has.memory (later false)))
    tested (Num z) is on = rw is tt
    tested (Flag c) is on = rw is tt

-- the receiver is an object
receiver_is : (this : Option ℕ) (x : ℕ) (v : Value) (s : DynState) → option_map_or (λ y. x == y) this false ≡ true → ThisIs this v s → (o : ℕ) × (var_at s.vars x ≡ Obj o)
receiver_is None x v s is this = absurd (false≢true is)
receiver_is (Some y) x v s is this = (this.1.0, ap (var_at s.vars) (eqb-true x y is) ∙ this.0 ∙ this.1.1)

pub through_shows : (p : Posed) (n : ℕ) (g : Ground) (t : Bool) (start b : ℕ) (f : Spots) (class x : ℕ) (m : Memory) (s : DynState) (this v : Value) {B : Type 0}
    (R : B → Memory → DynState → Type 0) (k : ℕ → Memory → Ends B) (steps : List Plan)
    → (not (is_receiver f x) ≡ true → t ≡ true)
    → HasFlags g start f → f.base ≤ b → IsOpen g f m s → ThisIs f.this this s → var_at s.vars x ≡ v → x < b
    → OnObject p n t start b f m s v R k steps
    → Shows t start f s R (on_object k v m) (go p n (through g f b class x steps) s)
through_shows p n g t start b f class x m s this v {B} R k steps may flags low open_ receiver value near on = by (is_receiver f x) refl may
  where
    by : (r : Bool) → is_receiver f x ≡ r → (not r ≡ true → t ≡ true) → Shows t start f s R (on_object k v m) (go p n (if r then steps else null_test g f b class x steps) s)
    by true is may =
        let object = receiver_is f.this x this s is receiver in
        let v_is : v ≡ Obj object.0 = sym value ∙ object.1 in
        subst (λ w. Shows t start f s R (on_object k w m) (go p n steps s)) (sym v_is) (on object.0 s v_is open_.memory (kept_same b s))
    by false is may =
        let sure : t ≡ true = may refl in
        subst (λ u. Shows u start f s R (on_object k v m) (go p n (null_test g f b class x steps) s)) (sym sure)
        (null_test_shows p n g start b f class x m s v R k steps flags low open_ value near
        (λ o u is memory kept. subst (λ w. Shows w start f s R (k o m) (go p n steps u)) sure (on o u is memory kept)))

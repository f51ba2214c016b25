-- The forms of statements, but loops: each shows what it does.
use Rattle.std.proofs.Common.{◌≡◌, ℕ, ◌≤◌, Bool, true, false, List, [], ◌∷◌, ◌++◌, Option, Some, None, refl, sym, ◌∙◌, ap, subst, arith}
use Rattle.std.specs.Prelude.{◌||◌, pos, option_and_then, option_map, map, slice_get, slice_set, is_some}
use Rattle.std.proofs.lemmas.Option.{slice_get-map}
use Rattle.taco_unit.specs.declared.kind.Kind.{Kind}
use Rattle.taco_unit.specs.declared.expr.Op.TheVariants as op
use Rattle.heap_core.specs.declared.value.Value.{Value}
use Rattle.heap_core.specs.declared.value.Value.TheVariants.{Num}
use Rattle.heap_core.specs.declared.value.Seen.{Seen}
use Rattle.heap_core.specs.declared.value.Seen.TheVariants.{Is, Bad, Out}
use Rattle.heap_core.specs.Posed.{Posed}
use Rattle.heap_core.specs.Outcomes.{operated}
use Rattle.heap_core.specs.Exec.{Memory, Exit, Goes, Returns, Raises, Stops, Frame, Code, Body, ends_as, gives_in, after, then_do, in_turn, set_local, stepped}
use Rattle.dyn_core.specs.declared.prog.Act.TheVariants.{Sum, Diff}
use Rattle.dyn_core.specs.declared.state.DynState.{DynState}
use Rattle.dyn_core.specs.States.{var_at}
use Rattle.dyn_core.specs.Actions.{with_given, acted}
use Rattle.dyn_plan.specs.declared.plan.Plan.{Plan}
use Rattle.dyn_plan.specs.declared.plan.Plan.TheVariants as l
use Rattle.dyn_plan.specs.Plans.{go}
use Rattle.dyn_plan.specs.Places.{Ground, Spots, one_number}
use Rattle.dyn_plan.specs.Guards.{Lowered, guarded}
use Rattle.dyn_plan.specs.Expressions.{Low}
use Rattle.dyn_plan.specs.Statements.{Laid, Lay, stops, value_then, lay_block, set_to, step_by_one, step_local}
use Rattle.dyn_plan.proofs.PlanForms.{next_do}
use Rattle.dyn_plan.proofs.Shown.{set, IsKept, kept_same, Stands, Remembers, IsFrame, IsReady, HasGiven, Shows, go_one, go_append, Skips, skips_none, skips_both, guard_skips, guard_opens}
use Rattle.dyn_plan.proofs.Operations.{IsDefined, did, number_defined}
use Rattle.dyn_plan.proofs.ExprShown.{or_left, or_right, Claim}
use Rattle.dyn_plan.proofs.Operations.{numbers_defined}
use Rattle.dyn_plan.proofs.StmtShown.{exit_wanted, with_locals, Ended, StmtClaim, ended_from, ended_weaker, ends_nowhere, wanted_goes, wanted_stops, operand_does, local_set}
use Rattle.dyn_plan.proofs.StmtShown.{set_local_is, set_shows}

-- ## blocks

pub wanted_then_do : (w : Bool) (e : Exit) (k : List Value → Memory → Exit) → then_do (exit_wanted w e) (λ ls m. exit_wanted w (k ls m)) ≡ exit_wanted w (then_do e k)
wanted_then_do true (Goes ls m) k = refl
wanted_then_do false (Goes ls m) k = refl
wanted_then_do true (Returns (Some v) m) k = refl
wanted_then_do true (Returns None m) k = refl
wanted_then_do false (Returns v m) k = refl
wanted_then_do true (Raises m) k = refl
wanted_then_do false (Raises m) k = refl
wanted_then_do true Stops k = refl
wanted_then_do false Stops k = refl

-- a statement, and then steps that are left out where the frame is done
pub then_does : (p : Posed) (n : ℕ) (g : Ground) (t r u w : Bool) (start : ℕ) (f : Spots) (fr : Frame) (s q : DynState) (e : Exit) (k : List Value → Memory → Exit) (first rest : List Plan)
    → ((t || r) ≡ true → Skips p n f rest) → (t ≡ true → u ≡ true) → (r ≡ true → w ≡ true)
    → Ended g t r start f fr s e (go p n first q)
    → ((ls : List Value) (m : Memory) (z : DynState) → IsReady g f (with_locals fr ls) m z → IsKept start s z → Ended g u w start f fr s (k ls m) (go p n rest z))
    → Ended g u w start f fr s (then_do e k) (go p n (first ++ rest) q)
then_does p n g t r u w start f fr s q e k first rest skips more again ended on =
    subst (Ended g u w start f fr s (then_do e k)) (sym (go_append p n first rest q)) (both e (go p n first q) ended)
  where
    both : (e : Exit) (o : Option DynState) → Ended g t r start f fr s e o → Ended g u w start f fr s (then_do e k) (option_and_then (go p n rest) o)
    both (Goes ls m) (Some z) ended = on ls m z ended.0 ended.1
    both (Goes ls m) None ended = absurd ended
    both (Returns v m) (Some z) ended = subst (Ended g u w start f fr s (Returns v m)) (sym (skips (or_right t r ended.0) z ended.1.done)) (again ended.0, ended.1)
    both (Returns v m) None ended = absurd ended
    both (Raises m) (Some z) ended = subst (Ended g u w start f fr s (Raises m)) (sym (skips (or_left t r ended.0) z ended.1.done)) (more ended.0, ended.1)
    both (Raises m) None ended = absurd ended
    both Stops (Some z) ended = absurd ended
    both Stops None ended = tt

block_skips : (p : Posed) (n : ℕ) (f : Spots) (t : Bool) (xs : List Laid) → t ≡ true → Skips p n f (lay_block f t xs).steps
block_skips p n f t [] is = skips_none p n f
block_skips p n f t (x ∷ xs) is =
    skips_both p n f (guarded f t x.steps) (lay_block f (t || stops x) xs).steps (guard_skips p n f t x.steps is) (block_skips p n f (t || stops x) xs (or_left t (stops x) is))

abbrev pub Statements : Posed → ℕ → Ground → List Lay → List Body → Type 0
Statements p n g [] [] = Unit {0}
Statements p n g (x ∷ xs) (b ∷ bs) = StmtClaim p n g x b × Statements p n g xs bs
Statements p n g _ _ = ⊥

pub block_shows : (p : Posed) (n : ℕ) (g : Ground) (t : Bool) (start : ℕ) (f : Spots) (s q : DynState) (fr : Frame) (m : Memory) (xs : List Lay) (bs : List Body)
    → Statements p n g xs bs → IsFrame g start f → IsReady g f fr m q → IsKept start s q
    → Ended g (lay_block f t (map (λ x. x f) xs)).throws (lay_block f t (map (λ x. x f) xs)).returns start f fr s (exit_wanted f.wanted (in_turn bs fr m))
    (go p n (lay_block f t (map (λ x. x f) xs)).steps q)
block_shows p n g t start f s q fr m [] [] claims frame ready kept = subst (λ z. Ended g false false start f fr s z (Some q)) (sym (wanted_goes f.wanted fr.locals m)) (ready, kept)
block_shows p n g t start f s q fr m [] (b ∷ bs) claims frame ready kept = absurd claims
block_shows p n g t start f s q fr m (x ∷ xs) [] claims frame ready kept = absurd claims
block_shows p n g t start f s q fr m (x ∷ xs) (b ∷ bs) claims frame ready kept =
    let y : Laid = x f in
    let rest : Laid = lay_block f (t || stops y) (map (λ x. x f) xs) in
    let k : List Value → Memory → Exit = λ ls h. in_turn bs (with_locals fr ls) h in
    subst (λ z. Ended g (y.throws || rest.throws) (y.returns || rest.returns) start f fr s z (go p n (guarded f t y.steps ++ rest.steps) q)) (wanted_then_do f.wanted (b fr m) k)
    (then_does p n g y.throws y.returns (y.throws || rest.throws) (y.returns || rest.returns) start f fr s q (exit_wanted f.wanted (b fr m))
    (λ ls h. exit_wanted f.wanted (k ls h)) (guarded f t y.steps) rest.steps
    (λ is. block_skips p n f (t || stops y) (map (λ x. x f) xs) (or_right t (stops y) is)) (or_left y.throws rest.throws) (or_left y.returns rest.returns)
    (subst (Ended g y.throws y.returns start f fr s (exit_wanted f.wanted (b fr m))) (sym (guard_opens p n f t y.steps q ready.opened.done))
    (ended_from g y.throws y.returns start f fr s q (exit_wanted f.wanted (b fr m)) (go p n y.steps q) kept (claims.0.shows start f q fr m frame ready)))
    (λ ls h z now since.
    ended_weaker g rest.throws rest.returns (y.throws || rest.throws) (y.returns || rest.returns) start f fr s (exit_wanted f.wanted (k ls h)) (go p n rest.steps z)
    (or_right y.throws rest.throws) (or_right y.returns rest.returns)
    (block_shows p n g (t || stops y) start f s z (with_locals fr ls) h xs bs claims.1 frame now since)))

-- ## assignments

pub assign_shows : (p : Posed) (n : ℕ) (g : Ground) (a : Low) (d : Code) (i : ℕ) (k : Kind) (start : ℕ) (f : Spots) (s : DynState) (fr : Frame) (m : Memory)
    → Claim p n g a d → IsFrame g start f → IsReady g f fr m s
    → Ended g (a.low k f f.base).throws false start f fr s (exit_wanted f.wanted (after (d fr m) (set_local fr i)))
    (go p n (value_then f (a.low k f f.base) (set_to (slice_get f.locals i) (a.low k f f.base).place)).steps s)
assign_shows p n g a d i k start f s fr m claim frame ready =
    let x : Lowered = a.low k f f.base in
    operand_does p n g a d false x.throws false start f k f.base s s fr m (set_local fr i) (guarded f x.throws (set_to (slice_get f.locals i) x.place)) claim frame (omega arith)
    (kept_same start s) ready
    (guard_skips p n f x.throws (set_to (slice_get f.locals i) x.place)) (λ t. t)
    (λ v h q given now since.
    subst (Ended g x.throws false start f fr s (exit_wanted f.wanted (set_local fr i v h))) (sym (guard_opens p n f x.throws (set_to (slice_get f.locals i) x.place) q now.opened.done))
    (set_shows p n g x.throws start f fr h s q i x.place v frame now since given.value))

-- one more or one less, at a number's variable
pub step_shows : (p : Posed) (n : ℕ) (g : Ground) (t : Bool) (start b x : ℕ) (f : Spots) (m : Memory) (s : DynState) (up : Bool) (v : Value) → b ≤ x → Stands g s → Remembers m s
    → var_at s.vars x ≡ v
    → Shows t start f s (HasGiven b x s) (stepped p.scope.ints up v m) (go p n (l.Do (step_by_one g up x) ∷ []) s)
step_shows p n g t start b x f m s true v above still memory is =
    did p n t start b x f m s (Sum x x (one_number g)) (operated op.Add p.scope.ints v (Num (pos 1))) (rw (is, still.one) refl)
    (numbers_defined _ (λ z w. number_defined p.scope.ints _) v (Num (pos 1))) above memory
step_shows p n g t start b x f m s false v above still memory is =
    did p n t start b x f m s (Diff x x (one_number g)) (operated op.Sub p.scope.ints v (Num (pos 1))) (rw (is, still.one) refl)
    (numbers_defined _ (λ z w. number_defined p.scope.ints _) v (Num (pos 1))) above memory

-- what an action gives at a local's variable is the local's value
pub step_local_shows : (p : Posed) (n : ℕ) (g : Ground) (start : ℕ) (f : Spots) (fr : Frame) (m : Memory) (s : DynState) (i : ℕ) (up : Bool) → IsFrame g start f → IsReady g f fr m s
    → Ended g false false start f fr s (exit_wanted f.wanted (after (gives_in (slice_get fr.locals i) m) (λ v h. after (stepped p.scope.ints up v h) (set_local fr i))))
    (go p n (step_local g up (slice_get f.locals i)) s)
step_local_shows p n g start f fr m s i up frame ready =
    subst (λ o. Ended g false false start f fr s (exit_wanted f.wanted (after (gives_in o m) (λ v h. after (stepped p.scope.ints up v h) (set_local fr i))))
    (go p n (step_local g up (slice_get f.locals i)) s))
    (sym (slice_get-map (var_at s.vars) f.locals i) ∙ ap (λ vs. slice_get vs i) ready.locals) (by (slice_get f.locals i) refl)
  where
    op_of : Bool → Value → Seen
    op_of true v = operated op.Add p.scope.ints v (Num (pos 1))
    op_of false v = operated op.Sub p.scope.ints v (Num (pos 1))

    act_is : (up : Bool) (x : ℕ) → acted p (step_by_one g up x) s ≡ with_given x s (op_of up (var_at s.vars x))
    act_is true x = rw ready.opened.still.one refl
    act_is false x = rw ready.opened.still.one refl

    stepped_is : (up : Bool) (v : Value) → stepped p.scope.ints up v m ≡ ends_as m (op_of up v)
    stepped_is true v = refl
    stepped_is false v = refl

    defined : (up : Bool) (v : Value) → IsDefined (op_of up v)
    defined true v = numbers_defined _ (λ z w. number_defined p.scope.ints _) v (Num (pos 1))
    defined false v = numbers_defined _ (λ z w. number_defined p.scope.ints _) v (Num (pos 1))

    given : (x : ℕ) → slice_get f.locals i ≡ Some x → (seen : Seen) → IsDefined seen
        → Ended g false false start f fr s (exit_wanted f.wanted (after (ends_as m seen) (set_local fr i))) (with_given x s seen)
    given x at (Is v) fine =
        subst (λ z. Ended g false false start f fr s z (Some (set x v s)))
        (sym (ap (exit_wanted f.wanted) (set_local_is (var_at s.vars) f.locals fr i v m true ready.locals (ap is_some at)) ∙ wanted_goes f.wanted (slice_set fr.locals i v) m))
        (local_set p n g start f fr m s i x v frame ready at)
    given x at Bad fine = absurd fine
    given x at Out fine = subst (λ z. Ended g false false start f fr s z None) (sym (wanted_stops f.wanted)) tt

    by : (o : Option ℕ) → slice_get f.locals i ≡ o
        → Ended g false false start f fr s (exit_wanted f.wanted (after (gives_in (option_map (var_at s.vars) o) m) (λ v h. after (stepped p.scope.ints up v h) (set_local fr i))))
        (go p n (step_local g up o) s)
    by (Some x) at =
        rw (stepped_is up (var_at s.vars x), go_one p n (l.Do (step_by_one g up x)) s, next_do p n (step_by_one g up x) s, act_is up x)
        (given x at (op_of up (var_at s.vars x)) (defined up (var_at s.vars x)))
    by None at = rw (wanted_stops f.wanted) (ends_nowhere p n g false false start f fr s s)

-- ## fields

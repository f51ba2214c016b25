-- Statements, lowered. (This project's own.)
use Rattle.std.specs.Prelude.{ℕ, ◌+◌, Bool, true, false, not, ◌||◌, if◌then◌else◌, List, [], ◌∷◌, ◌++◌, map, slice_get, Option, Some, None}
use Rattle.taco_unit.specs.declared.kind.Kind.TheVariants.{Int, Flag, Ref}
use Rattle.taco_unit.specs.declared.stmt.Stmt.{Stmt, fold-Stmt}
use Rattle.taco_unit.specs.declared.stmt.Stmt.TheOpen.{Stmt-F}
use Rattle.heap_core.specs.declared.value.Value.TheVariants as v
use Rattle.dyn_core.specs.declared.prog.Act.{Act}
use Rattle.dyn_core.specs.declared.prog.Act.TheVariants.{Copy, Const, Sum, Diff, Read, Write}
use Rattle.dyn_plan.specs.declared.plan.Plan.{Plan}
use Rattle.dyn_plan.specs.declared.plan.Plan.TheVariants as l
use Rattle.dyn_plan.specs.Places.{Ground, Spots, behind, one_number, is_receiver}
use Rattle.dyn_plan.specs.Guards.{Lowered, guarded, set_done, through}
use Rattle.dyn_plan.specs.Expressions.{Inline, kind_or, class_of_field, kind_of_field, low_expr, low_call, behind_both}

-- a lowered statement: its steps, and whether it can throw or return
pub record Laid : Type 0 where
  pub steps : List Plan
  pub throws : Bool
  pub returns : Bool

-- the frame can be done behind it
abbrev pub stops : Laid → Bool
stops x = x.throws || x.returns

-- how a statement is lowered in a frame
abbrev pub Lay : Type 0
Lay = Spots → Laid

-- a value, and then steps that neither throw nor return
abbrev pub value_then : Spots → Lowered → List Plan → Laid
value_then f x steps = record { steps = x.steps ++ guarded f x.throws steps; throws = x.throws; returns = false }

-- one statement behind others, after which the frame can be done where that is said
abbrev pub with_next : Spots → Bool → Laid → Laid → Laid
with_next f t x rest = record { steps = guarded f t x.steps ++ rest.steps; throws = x.throws || rest.throws; returns = x.returns || rest.returns }

-- one after the other
abbrev pub lay_block : Spots → Bool → List Laid → Laid
lay_block f t [] = record { steps = []; throws = false; returns = false }
lay_block f t (x ∷ xs) = with_next f t x (lay_block f (t || stops x) xs)

-- a local is set to the value at x
abbrev pub set_to : Option ℕ → ℕ → List Plan
set_to (Some y) x = l.Do (Copy y x) ∷ []
set_to None x = l.Fail ∷ []

-- one more, or one less
abbrev pub step_by_one : Ground → Bool → ℕ → Act
step_by_one g true x = Sum x x (one_number g)
step_by_one g false x = Diff x x (one_number g)

abbrev pub step_local : Ground → Bool → Option ℕ → List Plan
step_local g up (Some x) = l.Do (step_by_one g up x) ∷ []
step_local g up None = l.Fail ∷ []

-- a field of the object at x is set to the value at y
abbrev pub write_low : Ground → ℕ → Spots → Lowered → Lowered → Laid
write_low g i f x y = record {
  steps = x.steps ++ (guarded f x.throws y.steps ++ guarded f (x.throws || y.throws)
      (through g f (behind_both g f.base x y) (class_of_field g i) x.place (l.Do (Write x.place i y.place) ∷ [])));
  throws = x.throws || y.throws || not (is_receiver f x.place);
  returns = false;
}

-- a field of the object at x is stepped, at a variable r that is free
abbrev pub step_field_low : Ground → ℕ → Bool → Spots → Lowered → ℕ → Laid
step_field_low g i up f x r = record {
  steps = x.steps ++ guarded f x.throws (through g f r (class_of_field g i) x.place (l.Do (Read r x.place i) ∷ l.Do (step_by_one g up r) ∷ l.Do (Write x.place i r) ∷ []));
  throws = x.throws || not (is_receiver f x.place);
  returns = false;
}

abbrev pub if_low : Spots → Lowered → Laid → Laid → Laid
if_low f x taken other = record {
  steps = x.steps ++ guarded f x.throws (l.If x.place taken.steps other.steps ∷ []);
  throws = x.throws || taken.throws || other.throws;
  returns = taken.returns || other.returns;
}

-- the test's value becomes the flag x; where the frame is done, the flag is false
abbrev pub settled : Spots → Bool → ℕ → ℕ → List Plan
settled f false x y = l.Do (Copy x y) ∷ []
settled f true x y = l.If f.done (l.Do (Const x (v.Flag false)) ∷ []) (l.Do (Copy x y) ∷ []) ∷ []

-- the test of a loop, where the frame can be done before or not
abbrev pub asked : Spots → Bool → Lowered → ℕ → List Plan
asked f t a x = guarded f t a.steps ++ settled f (t || a.throws) x a.place

-- a loop, with the flag x
abbrev pub loop_low : Spots → Lowered → Laid → ℕ → Laid
loop_low f a body x = record {
  steps = asked f false a x ++ (l.While x (body.steps ++ asked f (stops body) a x) ∷ []);
  throws = a.throws || body.throws;
  returns = body.returns;
}

-- a loop that has no turn
abbrev pub turnless_low : Spots → Lowered → ℕ → Laid
turnless_low f a x = record { steps = asked f false a x ++ (l.If x (l.Fail ∷ []) [] ∷ []); throws = a.throws; returns = false }

abbrev pub while_low : Ground → Spots → Lowered → Laid → Laid
while_low g f a body = if g.turnless then turnless_low f a (f.base + 1) else loop_low f a body (f.base + 1)

-- `return`; without a value where one is wanted there is no following state
abbrev pub return_bare : Spots → Laid
return_bare f = record { steps = if f.wanted then l.Fail ∷ [] else set_done f; throws = false; returns = true }

abbrev pub return_value : Spots → Lowered → Laid
return_value f x = record { steps = x.steps ++ guarded f x.throws (l.Do (Copy f.result x.place) ∷ set_done f); throws = x.throws; returns = true }

-- by cases on the statement's form
abbrev pub lay_step : Ground → Inline → Stmt-F Lay → Lay
lay_step g inline (Stmt-F.Block parts) f = lay_block f false (map (λ s. s f) parts)
lay_step g inline (Stmt-F.Set i a) f =
    let x : Lowered = (low_expr g inline a).low (kind_or (slice_get f.kinds i) Int) f f.base in
    value_then f x (set_to (slice_get f.locals i) x.place)
lay_step g inline (Stmt-F.Write a i c) f =
    let x : Lowered = (low_expr g inline a).low (Ref (class_of_field g i)) f f.base in
    write_low g i f x ((low_expr g inline c).low (kind_of_field g i) f (behind g f.base x.place))
lay_step g inline (Stmt-F.StepLocal i up) f = record { steps = step_local g up (slice_get f.locals i); throws = false; returns = false }
lay_step g inline (Stmt-F.StepField a i up) f =
    let x : Lowered = (low_expr g inline a).low (Ref (class_of_field g i)) f f.base in
    step_field_low g i up f x (behind g f.base x.place)
lay_step g inline (Stmt-F.If a s t) f = if_low f ((low_expr g inline a).low Flag f f.base) (s f) (t f)
lay_step g inline (Stmt-F.While a s) f = while_low g f ((low_expr g inline a).low Flag f f.base) (s f)
lay_step g inline (Stmt-F.Return None) f = return_bare f
lay_step g inline (Stmt-F.Return (Some a)) f = return_value f ((low_expr g inline a).low f.gives f f.base)
lay_step g inline (Stmt-F.Run c) f =
    let x : Lowered = (low_call g inline c).low false f f.base in
    record { steps = x.steps; throws = x.throws; returns = false }

-- a statement, where calls are inlined so
abbrev pub lay : Ground → Inline → Stmt → Lay
lay g inline = fold-Stmt Lay (lay_step g inline)

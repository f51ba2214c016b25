-- What the trial of all lists finds.
use Rattle.std.specs.Prelude.{◌≡◌, ℕ, Bool, List, [], length, Option, Some, None}
use Rattle.taco_unit.specs.declared.expr.Expr.{Expr}
use Rattle.taco_unit.specs.declared.unit.MethodDef.{MethodDef}
use Rattle.heap_core.specs.declared.judged.Part.{Part}
use Rattle.heap_core.specs.declared.judged.Part.TheVariants as part
use Rattle.heap_core.specs.declared.start.Start.{Start}
use Rattle.boolean_trial.specs.declared.trial.Breach.{Breach}
use Rattle.boolean_trial.specs.Trial.{start_of, failing, NoneFails}

-- the start has these arguments, with which this part breaks
pub record IsFailing (m : MethodDef) (value : Expr) (start : Start) (broken : Part) : Type 0 where
  pub args : List Bool
  pub number : ℕ
  pub same : length args ≡ length m.params
  pub is_start : start ≡ start_of args
  pub is_part : broken ≡ part.Ensures number
  pub fails : failing m.needs value m.gives args ≡ Some number

-- a list that fails, or that none does, of a method that returns this value
abbrev pub Finds : MethodDef → Expr → Option Breach → Type 0
Finds m value None = NoneFails (failing m.needs value m.gives) [] (length m.params)
Finds m value (Some b) = IsFailing m value b.start b.part

-- The task that follows a value.
use Rattle.std.specs.Prelude.{ℕ, pos, Bool, true, false, Option, Some, None}
use Rattle.std.specs.Borrow.{Bor}
use Rattle.taco_unit.specs.declared.expr.Op.TheVariants as op
use Rattle.taco_unit.specs.declared.stmt.Stmt.{Stmt}
use Rattle.heap_core.specs.declared.value.Value.TheVariants.{Num, Flag}
use Rattle.heap_core.specs.Outcomes.{operated}
use Rattle.heap_core.specs.declared.value.Value.{Value}
use Rattle.heap_core.specs.declared.value.Seen.{Seen}
use Rattle.heap_core.specs.declared.value.Seen.TheVariants.{Is, Bad, Out}
use Rattle.heap_run.specs.declared.machine.Outcome.{Outcome}
use Rattle.heap_run.specs.declared.machine.Outcome.TheVariants as outcome
use Rattle.heap_run.specs.declared.machine.Outcome.TheVariants.{Thrown, Unknown}
use Rattle.heap_run.specs.declared.machine.Task.{Task}
use Rattle.heap_run.specs.declared.machine.Task.TheVariants.{Execute, Give, Go, End}

-- what an evaluation gives that would give this in a clause
abbrev pub given : Seen → Task
given (Is v) = Give v
given Bad = End Thrown
given Out = End Unknown

-- a value that may be missing
abbrev pub given_in : Option Value → Task
given_in (Some v) = Give v
given_in None = End Unknown

-- what a call gives, where its value is wanted or not
abbrev pub given_back : Bool → Option Value → Task
given_back true v = given_in v
given_back false v = Go

-- the truth value that `&&` or `||` gives
abbrev pub as_truth : Value → Task
as_truth (Flag b) = Give (Flag b)
as_truth _ = End Unknown

-- one of two statements
abbrev pub branched : Bor Stmt → Bor Stmt → Value → Task
branched s t (Flag true) = Execute s
branched s t (Flag false) = Execute t
branched s t _ = End Unknown

-- one more, or one less
abbrev pub step : ℕ → Bool → Value → Seen
step w true v = operated op.Add w v (Num (pos 1))
step w false v = operated op.Sub w v (Num (pos 1))

-- how a run ends that gives this
abbrev pub outcome_of : Option Value → Outcome
outcome_of (Some v) = outcome.Value v
outcome_of None = outcome.Nothing

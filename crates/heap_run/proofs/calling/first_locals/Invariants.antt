use Rattle.std.proofs.Common.{◌≡◌, ◌++◌, take}
use Rattle.std.specs.Prelude.{map}
use Rattle.heap_core.specs.Outcomes.{zero_of}
use Rattle.heap_run.proofs.calling.first_locals.Given as goal

abbrev pub invariant-loop-kind : goal.invariant-loop-kind
invariant-loop-kind l = l.locals ≡ l.fn.args ++ map zero_of (take l.kind-index l.kinds)

use Rattle.heap_core.specs.Posed.{Posed}
use Rattle.dyn_rel.proofs.Rest.{ZeroBelow}
use Rattle.dyn_rel.proofs.starts.rest_is_zero.Given as goal

abbrev pub invariant-loop-place : goal.invariant-loop-place
invariant-loop-place l = (p : Posed) → ZeroBelow p l.kinds l.from l.place l.parts

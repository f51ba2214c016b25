use Rattle.std.proofs.Common.{length}
use Rattle.heap_core.specs.Stages.{held, given, is_reached}
use Rattle.heap_core.proofs.Visiting.{Visits, left}
use Rattle.heap_core.proofs.visit.visit.Given as goal

abbrev pub invariant-loop-place : goal.invariant-loop-place
invariant-loop-place l = Visits (length l.start.objects) (held l.start.objects) (given l.start) (is_reached l.start) l.stages

abbrev pub decreases-loop-place : goal.decreases-loop-place
decreases-loop-place l = left l.stages

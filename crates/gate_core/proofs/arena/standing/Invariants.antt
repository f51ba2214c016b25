use Rattle.std.proofs.Common.{length}
use Rattle.gate_core.proofs.Search.{IsSought}
use Rattle.gate_core.proofs.arena.standing.Given as goal

abbrev pub invariant-loop-place : goal.invariant-loop-place
invariant-loop-place l = IsSought l.cells (length l.heads) l.first l.second l.place

abbrev pub decreases-loop-place : goal.decreases-loop-place
decreases-loop-place l = l.place

use Rattle.std.proofs.Common.{◌≡◌, replicate}
use Rattle.gate_sets.proofs.graphs.no_edges.Given as goal

abbrev pub invariant-loop-place : goal.invariant-loop-place
invariant-loop-place l = l.graph.items ≡ replicate l._place l.none

use Rattle.std.proofs.Common.{◌≡◌, replicate}
use Rattle.dyn_rel.proofs.paths.zeros.Given as goal

abbrev pub invariant-loop-place : goal.invariant-loop-place
invariant-loop-place l = l.all ≡ replicate l._place 0

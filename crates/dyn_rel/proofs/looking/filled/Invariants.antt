use Rattle.std.proofs.Common.{◌≡◌, replicate}
use Rattle.dyn_rel.proofs.looking.filled.Given as goal

abbrev pub invariant-loop-place : goal.invariant-loop-place
invariant-loop-place l = l.set ≡ replicate l._place l.inside

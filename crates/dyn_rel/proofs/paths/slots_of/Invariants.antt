use Rattle.std.proofs.Common.{◌≡◌, take}
use Rattle.dyn_steps.specs.Points.{numbered}
use Rattle.dyn_rel.proofs.paths.slots_of.Given as goal

abbrev pub invariant-loop-place : goal.invariant-loop-place
invariant-loop-place l = l.all ≡ numbered 0 (take l.place l.indices)

use Rattle.std.proofs.Common.{◌≡◌, drop}
use Rattle.derivation.specs.Propagation.{effect_of}
use Rattle.derivation.proofs.effect.what_does.Given as goal

-- the literals before are false
abbrev pub invariant-loop-place : goal.invariant-loop-place
invariant-loop-place l = effect_of l.trues l.clause ≡ effect_of l.trues (drop l.place l.clause)

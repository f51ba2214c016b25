use Rattle.std.proofs.Common.{◌≡◌, true, take}
use Rattle.derivation.specs.Cuts.{lacks}
use Rattle.derivation.proofs.cut.cut_at.Given as goal

-- no byte before is such a one
abbrev pub invariant-loop-place : goal.invariant-loop-place
invariant-loop-place l = lacks l.byte (take l.place l.bytes) ≡ true

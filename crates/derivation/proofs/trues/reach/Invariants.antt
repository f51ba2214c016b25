use Rattle.std.proofs.Common.{◌≡◌, ℕ, ◌+◌, ◌-◌, false, slice_index_or, vec_len}
use Rattle.derivation.proofs.trues.reach.Given as goal

-- no mark changes
abbrev pub invariant-loop-marks : goal.invariant-loop-marks
invariant-loop-marks l = (k : ℕ) → slice_index_or l.marks.items k false ≡ slice_index_or l.initial.marks.items k false

abbrev pub decreases-loop-marks : goal.decreases-loop-marks
decreases-loop-marks l = l.number + 1 - vec_len l.marks

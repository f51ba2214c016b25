use Rattle.std.proofs.Common.{ℕ, ◌<◌, ◌≤◌, ◌/◌, length}
use Rattle.std.specs.Prelude.{slice_index}
use Rattle.sat_analysis.proofs.gather.highest.Given as goal

abbrev pub invariant-loop-place : goal.invariant-loop-place
invariant-loop-place l = record {
  from_one : 0 < l.best;
  within : l.best < length l.lits;
  highest : (k : ℕ) → 0 < k → k < l.place → slice_index l.levels (slice_index l.lits k / 2) ≤ slice_index l.levels (slice_index l.lits l.best / 2);
}

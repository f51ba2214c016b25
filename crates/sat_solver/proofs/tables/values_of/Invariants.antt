use Rattle.std.proofs.Common.{◌≡◌, ◌≤◌, ◌<◌, ◌-◌, ◌*◌, ℕ, false, length, slice_index_or}
use Rattle.cnf_core.specs.Trues.{is_true}
use Rattle.sat_watch.specs.Trail.{literals}
use Rattle.sat_solver.proofs.tables.values_of.Given as goal

abbrev pub invariant-loop-place : goal.invariant-loop-place
invariant-loop-place l = record {
  all : length l.values.items ≡ l.place;
  values : (var : ℕ) → 0 < var → var ≤ l.place → slice_index_or l.values.items (var - 1) false ≡ is_true (literals l.trail.entries) (2 * var);
}

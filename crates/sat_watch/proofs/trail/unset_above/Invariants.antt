use Rattle.std.proofs.Common.{◌≡◌, ◌≤◌, [], length, take, drop}
use Rattle.cnf_core.specs.Trues.{AreMarks}
use Rattle.sat_watch.specs.Trail.{literals, up_to}
use Rattle.sat_watch.proofs.trail.unset_above.Given as goal

abbrev pub invariant-loop-kept : goal.invariant-loop-kept
invariant-loop-kept l = record {
  within : l.kept ≤ length l.entries;
  above : up_to l.level (drop l.kept l.entries) ≡ [];
  marked : AreMarks l.truths.items (literals (take l.kept l.entries));
  length : length l.truths.items ≡ length l.fn.truths.items;
}

abbrev pub decreases-loop-kept : goal.decreases-loop-kept
decreases-loop-kept l = l.kept

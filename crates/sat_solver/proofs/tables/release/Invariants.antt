use Rattle.std.proofs.Common.{◌≡◌, ◌≤◌, ℕ, true, false, [], take, drop, length}
use Rattle.sat_order.specs.Lists.{holds}
use Rattle.sat_order.specs.Order.{passed, is_free}
use Rattle.sat_watch.specs.Trail.{literals, up_to}
use Rattle.sat_solver.specs.Search.{AreSet}
use Rattle.sat_solver.proofs.tables.release.Given as goal

abbrev pub invariant-entries : goal.invariant-entries
invariant-entries l = record {
  within : l.kept ≤ length l.entries;
  gone : up_to l.level (drop l.kept l.entries) ≡ [];
  marked : AreSet l.set.items (literals (take l.kept l.entries));
  set_all : length l.set.items ≡ l.vars;
  phases_all : length l.phases.items ≡ l.vars;
  queued : l.queue.vars ≡ l.initial.queue.vars;
  passed : (v : ℕ) → holds (passed l.queue) v ≡ true → is_free l.set.items v ≡ false;
}

abbrev pub decreases-entries : goal.decreases-entries
decreases-entries l = l.kept

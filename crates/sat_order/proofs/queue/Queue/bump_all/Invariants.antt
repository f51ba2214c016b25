use Rattle.std.proofs.Common.{◌≡◌, ◌++◌, ◌||◌, ℕ, List, true, length, filter}
use Rattle.sat_order.specs.Lists.{holds}
use Rattle.sat_order.specs.Order.{passed, IsOrder}
use Rattle.sat_order.proofs.BumpLemmas.{led_by, vars_of}
use Rattle.sat_order.proofs.queue.Queue.bump_all.Given as goal

abbrev pub invariant-loop-next : goal.invariant-loop-next
invariant-loop-next l = record {
  done : List ℕ;
  parts : filter (holds l.vars) l.initial.self.vars ≡ vars_of l.next-iterator.iter.rest.now ++ done;
  vars : l.self.vars ≡ led_by done l.initial.self.vars;
  passed : (v : ℕ) → holds (passed l.self) v ≡ true → (holds done v || holds (passed l.initial.self) v) ≡ true;
  each : IsOrder l.self.vars;
  count : length l.self.vars ≡ length l.initial.self.vars;
}

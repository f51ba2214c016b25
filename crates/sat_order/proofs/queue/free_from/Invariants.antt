use Rattle.std.proofs.Common.{◌≡◌, ◌∷◌, true, length}
use Rattle.std.specs.List.{find}
use Rattle.sat_order.specs.Lists.{holds, from}
use Rattle.sat_order.specs.Order.{is_free}
use Rattle.sat_order.proofs.queue.free_from.Given as goal

abbrev pub invariant-loop-at : goal.invariant-loop-at
invariant-loop-at l = record {
  here : holds (0 ∷ l.ring.order) l.at ≡ true;
  same : find (is_free l.set) (from l.at l.ring.order) ≡ find (is_free l.set) (from l.fn.at l.ring.order);
}

abbrev pub decreases-loop-at : goal.decreases-loop-at
decreases-loop-at l = length (from l.at l.ring.order)

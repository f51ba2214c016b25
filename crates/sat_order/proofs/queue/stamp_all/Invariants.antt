use Rattle.std.proofs.Common.{◌≡◌, ◌∷◌, ℕ, true, length, get_or}
use Rattle.sat_order.specs.Lists.{holds, from, before}
use Rattle.sat_order.proofs.queue.stamp_all.Given as goal

abbrev pub invariant-loop-at : goal.invariant-loop-at
invariant-loop-at l = record {
  here : holds (0 ∷ l.ring.order) l.at ≡ true;
  left : l.left ≡ length (from l.at l.ring.order);
  dealt : (x : ℕ) → holds (before l.at l.ring.order) x ≡ true → get_or l.stamps.items x 0 ≡ length (from x l.ring.order);
  length : length l.stamps.items ≡ length l.fn.stamps.items;
}

abbrev pub decreases-loop-at : goal.decreases-loop-at
decreases-loop-at l = length (from l.at l.ring.order)

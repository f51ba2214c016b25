use Rattle.std.proofs.Common.{◌∷◌, arith, ap, sym, ◌∙◌}
use Rattle.std.specs.List.{find}
use Rattle.sat_order.specs.Lists.{holds, from}
use Rattle.sat_order.specs.Order.{is_free}
use Rattle.sat_order.proofs.OrderLemmas.{walk_falls, find_after, find_here, find_none}
use Rattle.sat_order.proofs.ListLemmas.{holds_after}
use Rattle.sat_order.proofs.queue.free_from.Goals as goal

pub returns-then-not-set-at : goal.returns-then-not-set-at
returns-then-not-set-at c = sym (find_here (is_free c.args.set.now) c.args.ring.now.order c.loop-at.at c.requires.each c.loop-at.invariant.here (omega arith) (grind arith))
    ∙ c.loop-at.invariant.same

pub loop-at-smaller : goal.loop-at-smaller
loop-at-smaller c = rw c.after-at.ensures (walk_falls c.args.ring.now.order c.loop-at.at c.requires.each c.loop-at.invariant.here (omega arith))

pub loop-at-preserved : goal.loop-at-preserved
loop-at-preserved c = record {
  here = ap (holds (0 ∷ c.args.ring.now.order)) c.after-at.ensures ∙ holds_after c.loop-at.at c.args.ring.now.order;
  same = ap (λ at. find (is_free c.args.set.now) (from at c.args.ring.now.order)) c.after-at.ensures
      ∙ find_after (is_free c.args.set.now) c.args.ring.now.order c.loop-at.at c.requires.each c.loop-at.invariant.here (omega arith) (grind arith)
      ∙ c.loop-at.invariant.same;
}

pub returns : goal.returns
returns c = sym (find_none (is_free c.args.set.now) c.args.ring.now.order c.loop-at.at c.requires.each (omega arith)) ∙ c.loop-at.invariant.same

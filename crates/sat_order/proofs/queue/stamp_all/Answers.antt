use Rattle.std.proofs.Common.{◌<◌, ◌∷◌, length, arith, ap, sym, ◌∙◌, length-set}
use Rattle.sat_order.specs.Lists.{holds, from, before}
use Rattle.sat_order.proofs.ListLemmas.{holds_after}
use Rattle.sat_order.proofs.OrderLemmas.{walk_falls, dealt_more, left_more, dealt_all, at_element}
use Rattle.sat_order.proofs.queue.stamp_all.Goals as goal

pub overflow_sub-left : goal.overflow_sub-left
overflow_sub-left c =
    let step = left_more c.args.ring.now.order c.loop-at.at c.loop-at.left c.requires.each c.loop-at.invariant.here (omega arith) c.loop-at.invariant.left in step.0

pub loop-at-smaller : goal.loop-at-smaller
loop-at-smaller c = rw c.after-at.ensures (walk_falls c.args.ring.now.order c.loop-at.at c.requires.each c.loop-at.invariant.here (omega arith))

pub loop-at-preserved : goal.loop-at-preserved
loop-at-preserved c =
    let within : c.loop-at.at < length c.loop-at.stamps.items =
    let known = (c.requires.each.each c.loop-at.at).0 (at_element c.args.ring.now.order c.loop-at.at c.loop-at.invariant.here (omega arith)) in
    omega (arith, c.loop-at.invariant.length, c.requires.one_each) in
    let step = left_more c.args.ring.now.order c.loop-at.at c.loop-at.left c.requires.each c.loop-at.invariant.here (omega arith) c.loop-at.invariant.left in
    record {
      here = ap (holds (0 ∷ c.args.ring.now.order)) c.after-at.ensures ∙ holds_after c.loop-at.at c.args.ring.now.order;
      left = step.1 ∙ ap (λ at. length (from at c.args.ring.now.order)) (sym c.after-at.ensures);
      dealt = λ x m. dealt_more c.loop-at.stamps.items c.args.ring.now.order c.loop-at.at c.loop-at.left c.requires.each c.loop-at.invariant.here (omega arith) within c.loop-at.invariant.left c.loop-at.invariant.dealt x
          (ap (λ at. holds (before at c.args.ring.now.order) x) (sym c.after-at.ensures) ∙ m);
      length = length-set c.loop-at.stamps.items c.loop-at.at c.loop-at.left ∙ c.loop-at.invariant.length;
    }

pub returns-clause-falls : goal.returns-clause-falls
returns-clause-falls c =
    rw c.len-count.ensures.value (dealt_all c.loop-at.stamps.items c.args.ring.now.order c.loop-at.at c.requires.each c.loop-at-test.false c.loop-at.invariant.dealt)

use Rattle.std.proofs.Common.{arith, ap, length-set}
use Rattle.sat_order.proofs.RingLemmas.{reads_without, neighbours}
use Rattle.sat_order.proofs.ring.Ring.remove.Goals as goal

pub index_mut-requires : goal.index_mut-requires
index_mut-requires c =
    let ends = neighbours c.self.inside.next.items c.self.inside.previous.items c.args.self.now.order c.self.inside.len c.args.var c.index-before.result.now c.index-after.result.now
    c.self.invariant.1 c.self.invariant.0 (ap (λ h. h.order) c.self.view_is) c.requires c.index-before.ensures c.index-after.ensures in omega (arith, ends.0)

pub index_mut-requires-2 : goal.index_mut-requires-2
index_mut-requires-2 c =
    let ends = neighbours c.self.inside.next.items c.self.inside.previous.items c.args.self.now.order c.self.inside.len c.args.var c.index-before.result.now c.index-after.result.now
    c.self.invariant.1 c.self.invariant.0 (ap (λ h. h.order) c.self.view_is) c.requires c.index-before.ensures c.index-after.ensures in omega (arith, ends.1)

pub invariant_of-self : goal.invariant_of-self
invariant_of-self c =
    let ring = reads_without c.self.inside.next.items c.self.inside.previous.items c.args.self.now.order c.self.inside.len c.args.var c.index-before.result.now c.index-after.result.now
    c.self.invariant.1 c.self.invariant.0 (ap (λ h. h.order) c.self.view_is) c.requires c.index-before.ensures c.index-after.ensures in
    (ring.0, simp length-set c.self.invariant.1, simp length-set c.self.invariant.2, simp length-set (omega (arith, c.self.invariant.3)))

pub returns-clause-order : goal.returns-clause-order
returns-clause-order c =
    let ring = reads_without c.self.inside.next.items c.self.inside.previous.items c.args.self.now.order c.self.inside.len c.args.var c.index-before.result.now c.index-after.result.now
    c.self.invariant.1 c.self.invariant.0 (ap (λ h. h.order) c.self.view_is) c.requires c.index-before.ensures c.index-after.ensures in ring.1

use Rattle.std.proofs.Common.{◌<◌, ◌+◌, length, arith, ap, length-set}
use Rattle.sat_order.proofs.RingLemmas.{reads_pushed, first_within, length-along}
use Rattle.sat_order.proofs.ring.Ring.push_front.Goals as goal

pub index_mut-requires-3 : goal.index_mut-requires-3
index_mut-requires-3 c =
    let end = first_within c.self.inside.next.items c.self.inside.previous.items c.args.self.now.order c.self.inside.len c.index-first.result.now
    c.self.invariant.1 c.self.invariant.0 (ap (λ h. h.order) c.self.view_is) c.index-first.ensures in omega (arith, end)

pub overflow_add-self : goal.overflow_add-self
overflow_add-self c =
    omega (arith, ap (λ h. length h.order) c.self.view_is, ap (λ h. h.vars) c.self.view_is, c.requires.room, c.self.invariant.2, length-along c.self.inside.next.items c.self.inside.len)

pub invariant_of-self : goal.invariant_of-self
invariant_of-self c =
    let room : c.self.inside.len + 1 < length c.self.inside.next.items = omega (arith, ap (λ h. length h.order) c.self.view_is, ap (λ h. h.vars) c.self.view_is, c.requires.room, length-along c.self.inside.next.items c.self.inside.len) in
    let within : c.args.var < length c.self.inside.next.items = omega (arith, ap (λ h. h.vars) c.self.view_is, c.requires.within, c.self.invariant.1) in
    let ring = reads_pushed c.self.inside.next.items c.self.inside.previous.items c.args.self.now.order c.self.inside.len c.args.var c.index-first.result.now
    c.self.invariant.1 c.self.invariant.0 (ap (λ h. h.order) c.self.view_is) c.requires.absent c.requires.from_one within c.index-first.ensures in
    (ring.0, simp length-set c.self.invariant.1, simp length-set c.self.invariant.2, simp length-set (omega (arith, room)))

pub returns-clause-order : goal.returns-clause-order
returns-clause-order c =
    let within : c.args.var < length c.self.inside.next.items = omega (arith, ap (λ h. h.vars) c.self.view_is, c.requires.within, c.self.invariant.1) in
    let ring = reads_pushed c.self.inside.next.items c.self.inside.previous.items c.args.self.now.order c.self.inside.len c.args.var c.index-first.result.now
    c.self.invariant.1 c.self.invariant.0 (ap (λ h. h.order) c.self.view_is) c.requires.absent c.requires.from_one within c.index-first.ensures in
    ring.1

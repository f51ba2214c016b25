use Rattle.std.proofs.Common.{◌≡◌, ◌+◌, true, length, arith, ap, sym, ◌∙◌}
use Rattle.sat_order.specs.Lists.{holds}
use Rattle.sat_order.specs.Order.{passed}
use Rattle.sat_order.proofs.OrderLemmas.{passed_all, is_passed}
use Rattle.sat_order.proofs.queue.Queue.is_passed.Goals as goal

pub returns-then-self-eq0 : goal.returns-then-self-eq0
returns-then-self-eq0 c =
    let there : holds c.self.inside.ring.order c.args.var ≡ true = ap (λ q. holds q.vars c.args.var) c.self.view_is ∙ c.requires in
    rw c.if-self-eq0.true (sym (ap (λ q. holds (passed q) c.args.var) (sym c.self.view_is) ∙ passed_all c.self.inside.ring.order c.self.inside.cursor c.args.var c.self.invariant.order c.if-self-eq0.true there))

pub returns-else-self-eq0 : goal.returns-else-self-eq0
returns-else-self-eq0 c =
    let there : holds c.self.inside.ring.order c.args.var ≡ true = ap (λ q. holds q.vars c.args.var) c.self.view_is ∙ c.requires in
    let stamped : length c.self.inside.stamps.items ≡ length c.self.inside.ring.order + 1 = omega (arith, c.self.invariant.stamped, c.self.invariant.all) in
    is_passed c.self.inside.stamps.items c.self.inside.ring.order (c.self.inside.newest + 1) c.self.inside.cursor c.args.var c.index-else-self-eq0.result.now c.index.result.now
    c.self.invariant.order c.self.invariant.falls stamped c.self.invariant.cursor c.if-self-eq0.false there c.index-else-self-eq0.ensures c.index.ensures
    ∙ ap (λ q. holds (passed q) c.args.var) c.self.view_is

use Rattle.std.proofs.Common.{◌≡◌, true, false, ap, sym, ◌∙◌}
use Rattle.sat_order.specs.Lists.{holds, before}
use Rattle.sat_order.specs.Order.{passed}
use Rattle.sat_order.proofs.ListLemmas.{before_before, absent_before, apart_by}
use Rattle.sat_order.proofs.queue.Queue.freed.Goals as goal

pub returns-then-is_passed-clause-passed : goal.returns-then-is_passed-clause-passed
returns-then-is_passed-clause-passed c = λ v h.
    let there : holds (before c.self.inside.cursor c.self.inside.ring.order) c.args.var ≡ true = ap (λ q. holds (passed q) c.args.var) c.self.view_is ∙ sym c.is_passed.ensures ∙ c.if-is_passed.true in
    let inner : holds (before c.args.var c.self.inside.ring.order) v ≡ true = h in
    let none : holds (before c.args.var c.self.inside.ring.order) c.args.var ≡ false = absent_before c.args.var c.self.inside.ring.order in (
      ap (λ q. holds (passed q) v) (sym c.self.view_is) ∙ before_before c.self.inside.ring.order c.self.inside.cursor c.args.var v there inner,
      apart_by (before c.args.var c.self.inside.ring.order) v c.args.var inner none,
    )

use Rattle.std.proofs.Common.{length, ap, sym, ◌∙◌}
use Rattle.std.specs.List.{find}
use Rattle.sat_order.specs.Lists.{from}
use Rattle.sat_order.specs.Order.{is_free}
use Rattle.sat_order.proofs.ListLemmas.{from_first}
use Rattle.sat_order.proofs.OrderLemmas.{none_free}
use Rattle.sat_order.proofs.queue.Queue.next_free.Goals as goal

pub returns-clause-none : goal.returns-clause-none
returns-clause-none c = none_free c.args.set.now c.self.inside.ring.order c.free_from.result c.self.invariant.order (c.requires ∙ ap (λ q. length q.vars) (sym c.self.view_is))
    (c.free_from.ensures ∙ ap (λ at. find (is_free c.args.set.now) (from at c.self.inside.ring.order)) c.first.ensures ∙ ap (find (is_free c.args.set.now)) (from_first c.self.inside.ring.order))

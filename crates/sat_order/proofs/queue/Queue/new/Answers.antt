use Rattle.std.proofs.Common.{◌∷◌, length, ap, ◌∙◌, arith}
use Rattle.std.proofs.lemmas.List.FromFn.{length-range_with_len}
use Rattle.sat_order.specs.Lists.{holds}
use Rattle.sat_order.proofs.ListLemmas.{holds_first}
use Rattle.sat_order.proofs.OrderLemmas.{order_range}
use Rattle.sat_order.proofs.queue.Queue.new.Goals as goal

pub stamp_all-newest-requires-clause-each : goal.stamp_all-newest-requires-clause-each
stamp_all-newest-requires-clause-each c = rw c.in_ok-ring.ensures.order (order_range c.args.vars)

pub stamp_all-newest-requires-clause-one_each : goal.stamp_all-newest-requires-clause-one_each
stamp_all-newest-requires-clause-one_each c = omega (arith, c.in_ok-stamps.ensures.len, ap length c.in_ok-ring.ensures.order, length-range_with_len 1 c.args.vars)

pub invariant_of-result : goal.invariant_of-result
invariant_of-result c = record {
  order = rw c.in_ok-ring.ensures.order (order_range c.args.vars);
  all = omega (arith, c.in_ok-ring.ensures.vars, ap length c.in_ok-ring.ensures.order, length-range_with_len 1 c.args.vars);
  cursor = ap (holds (0 ∷ c.in_ok-ring.ring.order)) c.first-cursor.ensures ∙ holds_first c.in_ok-ring.ring.order;
  stamped = omega (arith, c.stamp_all-newest.ensures.length, c.in_ok-stamps.ensures.len, c.in_ok-ring.ensures.vars);
  falls = c.stamp_all-newest.ensures.falls;
}

pub returns-clause-each : goal.returns-clause-each
returns-clause-each c = rw c.in_ok-ring.ensures.order (order_range c.args.vars)

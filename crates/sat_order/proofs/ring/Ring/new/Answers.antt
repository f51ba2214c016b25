use Rattle.std.proofs.Common.{◌+◌, length, arith, ap, ◌∙◌}
use Rattle.std.proofs.lemmas.List.FromFn.{length-range_with_len}
use Rattle.sat_order.specs.Lists.{holds}
use Rattle.sat_order.proofs.OrderLemmas.{absent_range}
use Rattle.sat_order.proofs.ring.Ring.new.Goals as goal

pub push_front-requires-clause-absent : goal.push_front-requires-clause-absent
push_front-requires-clause-absent c =
    ap (λ xs. holds xs c.loop-var.var) c.loop-var.invariant.order ∙ absent_range _ _ c.loop-var.var (omega arith)

pub push_front-requires-clause-room : goal.push_front-requires-clause-room
push_front-requires-clause-room c =
    omega (arith, ap length c.loop-var.invariant.order, length-range_with_len (c.loop-var.var + 1))

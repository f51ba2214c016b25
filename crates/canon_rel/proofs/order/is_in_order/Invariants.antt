use Rattle.canon_rel.proofs.Gathered.{OrderSoFar}
use Rattle.canon_rel.proofs.order.is_in_order.Given as goal

abbrev pub invariant-loop-object : goal.invariant-loop-object
invariant-loop-object l = OrderSoFar l.problem l.at l.places l.object l.parts

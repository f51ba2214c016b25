use Rattle.canonical_order.proofs.TupleOrder.{target_at}
use Rattle.canonical_order.proofs.tuple.target.Goals as goal

pub returns-else-number-eq0 : goal.returns-else-number-eq0
returns-else-number-eq0 c = λ objects within. target_at objects c.args.number within c.if-number-eq0.false

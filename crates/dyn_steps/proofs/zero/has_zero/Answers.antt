use Rattle.dyn_steps.proofs.Zeros.{zero_said}
use Rattle.dyn_steps.proofs.zero.has_zero.Goals as goal

pub returns : goal.returns
returns c = λ p kinds there.
    zero_said p kinds c.args.kind c.args.variable c.args.index _ _ _ c.slot-relation.ensures c.zero_of-zero.ensures c.in_ok-same.ensures.meaning c.in_ok-same.ensures.sorted there

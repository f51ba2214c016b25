use Rattle.std.specs.Prelude.{slice_get}
use Rattle.dyn_rel.proofs.Joints.{are_joined}
use Rattle.dyn_rel.proofs.joining.join.Goals as goal

pub returns : goal.returns
returns c = λ p vars list begun first second.
    are_joined p c.args.kinds.now vars c.args.at.now c.args.first c.args.second _ _ _ _ _ _ c.in_ok-joint.ensures
    (c.in_ok-same.ensures p vars list) (c.in_ok-also.ensures p vars list)
    c.in_ok-left.ensures.meaning c.in_ok-right.ensures.meaning c.in_ok-formula.ensures.meaning
    (c.in_ok-left.ensures.sorted p (slice_get c.args.kinds.now)) (c.in_ok-right.ensures.sorted p (slice_get c.args.kinds.now))
    (c.in_ok-formula.ensures.sorted p (slice_get c.args.kinds.now)) begun first second

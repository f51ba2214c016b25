use Rattle.std.proofs.Common.{◌&&◌, ap, ◌∙◌}
use Rattle.rel_core.specs.Meaning.{holds}
use Rattle.canon_rel.specs.Shape.{has_shape}
use Rattle.canon_rel.proofs.Says.{says_canonical}
use Rattle.canon_rel.proofs.formula.canon_formula.Goals as goal

pub returns-clause-meaning : goal.returns-clause-meaning
returns-clause-meaning c = λ kinds m gives of.
    let p = c.args.problem.now in
    let at = c.args.at.now in
    says_canonical p m at c.well_posed.ensures.unit c.well_posed.ensures.scope kinds gives of c.in_ok-canonical.canonical
    (c.in_ok-canonical.ensures.meaning m ∙ ap (λ b. b && holds c.in_ok-order.order m) (c.in_ok-shape.ensures.meaning m of.objects)
    ∙ ap (λ b. has_shape p at m && b) (c.in_ok-order.ensures.meaning m of.objects))

pub returns-clause-sorted : goal.returns-clause-sorted
returns-clause-sorted c = λ kinds gives. c.in_ok-canonical.ensures.sorted c.args.problem.now kinds (c.in_ok-shape.ensures.sorted kinds gives) (c.in_ok-order.ensures.sorted kinds gives)

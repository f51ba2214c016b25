use Rattle.std.proofs.Common.{◌&&◌, ap, ◌∙◌}
use Rattle.std.specs.List.{list_all}
use Rattle.rel_core.specs.Meaning.{holds}
use Rattle.rel_core.specs.Reading.{numbers_below}
use Rattle.canon_rel.specs.Shape.{is_next, fields_fit}
use Rattle.canon_rel.proofs.shape.has_shape.Goals as goal

pub returns-clause-meaning : goal.returns-clause-meaning
returns-clause-meaning c = λ m same.
    let p = c.args.problem.now in
    let at = c.args.at.now in
    c.in_ok-shape.ensures.meaning m ∙ ap (λ b. b && holds c.in_ok-roots.roots m) (c.in_ok-heap.ensures.meaning m)
    ∙ ap (λ b. b && holds c.in_ok-fields.fields m && holds c.in_ok-roots.roots m) (c.in_ok-prefix.ensures.meaning m same)
    ∙ ap (λ b. list_all (is_next at m) (numbers_below p.scope.objects) && b && holds c.in_ok-roots.roots m) (c.in_ok-fields.ensures.meaning m same)
    ∙ ap (λ b. list_all (is_next at m) (numbers_below p.scope.objects) && list_all (fields_fit p at m) (numbers_below p.scope.objects) && b) (c.in_ok-roots.ensures.meaning m)

pub returns-clause-sorted : goal.returns-clause-sorted
returns-clause-sorted c = λ kinds gives.
    let p = c.args.problem.now in
    c.in_ok-shape.ensures.sorted p kinds (c.in_ok-heap.ensures.sorted p kinds (c.in_ok-prefix.ensures.sorted kinds) (c.in_ok-fields.ensures.sorted kinds)) (c.in_ok-roots.ensures.sorted kinds gives)

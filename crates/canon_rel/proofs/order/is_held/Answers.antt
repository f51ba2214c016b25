use Rattle.std.proofs.Common.{◌∷◌, ◌++◌, [], ap, ◌∙◌, arith, take_all}
use Rattle.std.specs.List.{list_any}
use Rattle.canon_rel.specs.Order.{has_at}
use Rattle.canon_rel.proofs.Gathered.{none_of_parts, held_more}
use Rattle.canon_rel.proofs.order.is_held.Goals as goal

pub loop-place-init : goal.loop-place-init
loop-place-init c = none_of_parts c.new-parts.result c.new-parts.ensures

pub loop-place-preserved : goal.loop-place-preserved
loop-place-preserved c =
    held_more c.args.places.now c.args.object c.loop-place.place-index _ c.loop-place.parts c.push.new.self c.in_ok-part.part c.loop-place.invariant (omega (arith, c.loop-place-test.true))
    (c.in_ok-push.ensures.ok ∙ ap (λ f. c.loop-place.parts ++ f ∷ []) c.into_inner.ensures) c.in_ok-part.ensures.meaning c.in_ok-part.ensures.sorted

pub returns-clause-meaning : goal.returns-clause-meaning
returns-clause-meaning c = λ m within inside.
    c.in_ok-some.ensures.meaning m ∙ c.loop-place.invariant.meaning m (within, inside)
    ∙ ap (list_any (has_at m c.args.object)) (take_all c.loop-place.place-index c.args.places.now (omega (arith, c.loop-place-test.false)))

pub returns-clause-sorted : goal.returns-clause-sorted
returns-clause-sorted c = λ p kinds sorted inside. c.in_ok-some.ensures.sorted p kinds (c.loop-place.invariant.sorted p kinds (sorted, inside))

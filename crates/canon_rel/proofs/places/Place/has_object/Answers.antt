use Rattle.std.proofs.Common.{ap, ◌∙◌}
use Rattle.heap_core.specs.Outcomes.{is_object}
use Rattle.rel_core.specs.Meaning.{is_subset, set_of}
use Rattle.canon_rel.specs.Places.{refs_at}
use Rattle.canon_rel.proofs.Pieces.{subset_one}
use Rattle.canon_rel.proofs.places.Place.has_object.Goals as goal

pub returns-clause-meaning : goal.returns-clause-meaning
returns-clause-meaning c = λ m within inside.
    c.in_ok-at_place.ensures.meaning m ∙ ap (λ s. is_subset m s (set_of c.in_ok-set.set m)) (c.in_ok-one.ensures.meaning m)
    ∙ ap (is_subset m (is_object c.args.object)) (c.in_ok-set.ensures.meaning m within) ∙ subset_one m c.args.object (refs_at m c.args.self) inside

pub returns-clause-sorted : goal.returns-clause-sorted
returns-clause-sorted c = λ p kinds sorted inside. c.in_ok-at_place.ensures.sorted p kinds (c.in_ok-one.ensures.sorted p kinds inside) (c.in_ok-set.ensures.sorted p kinds sorted)

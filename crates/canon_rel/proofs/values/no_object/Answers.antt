use Rattle.std.proofs.Common.{ap, ◌∙◌}
use Rattle.rel_core.specs.Meaning.{is_subset, set_of}
use Rattle.canon_rel.specs.Places.{refs_at}
use Rattle.canon_rel.proofs.values.no_object.Goals as goal

pub returns-clause-meaning : goal.returns-clause-meaning
returns-clause-meaning c = λ m within.
    c.in_ok-none.ensures.meaning m ∙ ap (λ s. is_subset m s (set_of c.in_ok-nil.nil m)) (c.in_ok-set.ensures.meaning m within)
    ∙ ap (is_subset m (refs_at m c.args.place)) (c.in_ok-nil.ensures.meaning m)

pub returns-clause-sorted : goal.returns-clause-sorted
returns-clause-sorted c = λ p kinds sorted. c.in_ok-none.ensures.sorted p kinds (c.in_ok-set.ensures.sorted p kinds sorted) (c.in_ok-nil.ensures.sorted p kinds)

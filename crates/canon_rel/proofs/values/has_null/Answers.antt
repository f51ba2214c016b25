use Rattle.std.proofs.Common.{ap, ◌∙◌}
use Rattle.heap_core.specs.Outcomes.{is_null}
use Rattle.rel_core.specs.Meaning.{is_subset, set_of}
use Rattle.canon_rel.proofs.values.has_null.Goals as goal

pub returns-clause-meaning : goal.returns-clause-meaning
returns-clause-meaning c = λ m within.
    c.in_ok-null.ensures.meaning m ∙ ap (λ s. is_subset m s (set_of c.in_ok-set.set m)) (c.in_ok-nil.ensures.meaning m)
    ∙ ap (is_subset m is_null) (c.in_ok-set.ensures.meaning m within)

pub returns-clause-sorted : goal.returns-clause-sorted
returns-clause-sorted c = λ p kinds sorted. c.in_ok-null.ensures.sorted p kinds (c.in_ok-nil.ensures.sorted p kinds) (c.in_ok-set.ensures.sorted p kinds sorted)

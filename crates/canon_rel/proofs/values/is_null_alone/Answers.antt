use Rattle.canon_rel.proofs.values.is_null_alone.Goals as goal

pub returns-clause-sorted : goal.returns-clause-sorted
returns-clause-sorted c = λ p kinds sorted. c.in_ok-alone.ensures.sorted p kinds (c.in_ok-no_object.ensures.sorted p kinds sorted) (c.in_ok-null.ensures.sorted p kinds sorted)

use Rattle.canon_rel.proofs.values.is_one_value.Goals as goal

pub returns-clause-sorted : goal.returns-clause-sorted
returns-clause-sorted c = λ p kinds sorted. c.in_ok-value.ensures.sorted p kinds (c.in_ok-null.ensures.sorted p kinds sorted) (c.in_ok-object.ensures.sorted p kinds sorted)

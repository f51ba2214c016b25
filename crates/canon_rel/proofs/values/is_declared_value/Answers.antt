use Rattle.canon_rel.proofs.values.is_declared_value.Goals as goal

pub returns-clause-sorted : goal.returns-clause-sorted
returns-clause-sorted c = λ p kinds inside sorted.
    c.in_ok-both.ensures.sorted p kinds
    (c.in_ok-where_own.ensures.sorted p kinds (c.in_ok-own.ensures.sorted p kinds inside) (c.in_ok-value.ensures.sorted p kinds sorted))
    (c.in_ok-elsewhere.ensures.sorted p kinds (c.in_ok-own-2.ensures.sorted p kinds inside) (c.in_ok-nothing.ensures.sorted p kinds sorted))

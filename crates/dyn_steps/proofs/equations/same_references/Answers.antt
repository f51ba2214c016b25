use Rattle.dyn_steps.proofs.equations.same_references.Goals as goal

pub returns-clause-sorted : goal.returns-clause-sorted
returns-clause-sorted c = λ p kinds a b. c.in_ok-same.ensures.sorted p kinds
    (c.in_ok-within.ensures.sorted p kinds (c.in_ok-inner.ensures.sorted p kinds a) (c.in_ok-outer.ensures.sorted p kinds b))
    (c.in_ok-around.ensures.sorted p kinds (c.in_ok-inner-2.ensures.sorted p kinds b) (c.in_ok-outer-2.ensures.sorted p kinds a))

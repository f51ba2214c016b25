use Rattle.dyn_steps.proofs.equations.is_flag_of.Goals as goal

pub returns-clause-sorted : goal.returns-clause-sorted
returns-clause-sorted c = λ p kinds a b d. c.in_ok-same.ensures.sorted p kinds (c.in_ok-variable.ensures.sorted p kinds a)
    (c.in_ok-truth.ensures.sorted p kinds (c.in_ok-object.ensures.sorted p kinds b) d)

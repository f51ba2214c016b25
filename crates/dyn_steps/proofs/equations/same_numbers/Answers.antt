use Rattle.dyn_steps.proofs.equations.same_numbers.Goals as goal

pub returns-clause-sorted : goal.returns-clause-sorted
returns-clause-sorted c = λ p kinds a b. c.in_ok-same.ensures.sorted p kinds (c.in_ok-left.ensures.sorted p kinds a) (c.in_ok-right.ensures.sorted p kinds b)

use Rattle.dyn_steps.proofs.equations.is_this_number.Goals as goal

pub returns-clause-sorted : goal.returns-clause-sorted
returns-clause-sorted c = λ p kinds a b. c.in_ok-same.ensures.sorted p kinds (c.in_ok-variable.ensures.sorted p kinds a) b

use Rattle.rel_core.proofs.formula.Formula.implies.Goals as goal

pub returns-clause-sorted : goal.returns-clause-sorted
returns-clause-sorted c = λ p kinds premise conclusion. c.in_ok-either.ensures.sorted p kinds (c.in_ok-fails.ensures.sorted p kinds premise) conclusion

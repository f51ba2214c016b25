use Rattle.rel_core.proofs.formula.Formula.same.Goals as goal

pub returns-in-Some-false-default-clause-sorted : goal.returns-in-Some-false-default-clause-sorted
returns-in-Some-false-default-clause-sorted c = λ p kinds left right. c.in_ok-opposite-in-Some-false-default.ensures.sorted p kinds right

pub returns-in-None-Some-false-clause-sorted : goal.returns-in-None-Some-false-clause-sorted
returns-in-None-Some-false-clause-sorted c = λ p kinds left right. c.in_ok-opposite-in-None-Some-false.ensures.sorted p kinds left

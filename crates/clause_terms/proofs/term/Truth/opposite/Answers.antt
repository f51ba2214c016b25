use Rattle.clause_terms.proofs.term.Truth.opposite.Goals as goal

pub returns-clause-sorted : goal.returns-clause-sorted
returns-clause-sorted c p kinds operand = record { value = c.in_ok-value.ensures.sorted p kinds operand.value; fine = operand.fine; inside = operand.inside }

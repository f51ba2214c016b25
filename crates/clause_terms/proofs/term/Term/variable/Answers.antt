use Rattle.clause_terms.proofs.term.Term.variable.Goals as goal

pub returns-clause-told : goal.returns-clause-told
returns-clause-told c m v shown = c.in_ok-term.ensures.told m v (c.in_ok-value.ensures.value m v shown)

pub returns-clause-sorted : goal.returns-clause-sorted
returns-clause-sorted c p kinds relation = c.in_ok-term.ensures.sorted p kinds (c.in_ok-value.ensures.sorted p kinds relation)

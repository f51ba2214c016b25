use Rattle.clause_terms.proofs.term.Truth.of.Goals as goal

pub returns-in-Set-clause-sorted : goal.returns-in-Set-clause-sorted
returns-in-Set-clause-sorted c p kinds term = c.in_ok-none-in-Set.ensures.sorted p kinds term.fine term.inside

pub returns-clause-sorted : goal.returns-clause-sorted
returns-clause-sorted c p kinds term = c.in_ok-none-in-Number.ensures.sorted p kinds term.fine term.inside

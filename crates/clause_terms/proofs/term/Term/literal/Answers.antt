use Rattle.clause_terms.proofs.term.Term.literal.Goals as goal

pub returns-clause-sorted : goal.returns-clause-sorted
returns-clause-sorted c p kinds = c.in_ok-term.ensures.sorted p kinds (c.in_ok-written.ensures.sorted p kinds)

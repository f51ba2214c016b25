use Rattle.std.proofs.Common.{rules}
use Rattle.clause_terms.proofs.term.Term.missing.Goals as goal

pub returns-clause-sorted : goal.returns-clause-sorted
returns-clause-sorted c p kinds = search (rules, c.in_ok-value.ensures.sorted, c.in_ok-fine.ensures.sorted, c.in_ok-inside.ensures.sorted)

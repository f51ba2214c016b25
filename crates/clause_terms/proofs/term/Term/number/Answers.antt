use Rattle.std.proofs.Common.{rules}
use Rattle.clause_terms.proofs.term.Term.number.Goals as goal

pub returns-clause-sorted : goal.returns-clause-sorted
returns-clause-sorted c p kinds number = search (rules, c.in_ok-fine.ensures.sorted, c.in_ok-inside.ensures.sorted, c.in_ok-first.ensures.sorted, c.in_ok-second.ensures.sorted)

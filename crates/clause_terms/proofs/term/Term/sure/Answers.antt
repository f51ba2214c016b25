use Rattle.std.proofs.Common.{rules}
use Rattle.clause_terms.proofs.term.Term.sure.Goals as goal

pub returns-clause-sorted : goal.returns-clause-sorted
returns-clause-sorted c p kinds value = search (rules, c.in_ok-fine.ensures.sorted, c.in_ok-inside.ensures.sorted)

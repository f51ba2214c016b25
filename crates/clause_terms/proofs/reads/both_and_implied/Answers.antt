use Rattle.std.proofs.Common.{rules}
use Rattle.clause_terms.proofs.reads.both_and_implied.Goals as goal

pub returns-clause-sorted : goal.returns-clause-sorted
returns-clause-sorted c p kinds first second = search (rules, c.in_ok-both.ensures.sorted, c.in_ok-implied.ensures.sorted, c.in_ok-premise.ensures.sorted, c.in_ok-conclusion.ensures.sorted)

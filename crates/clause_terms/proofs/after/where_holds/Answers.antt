use Rattle.std.proofs.Common.{rules}
use Rattle.clause_terms.proofs.after.where_holds.Goals as goal

pub returns-clause-sorted : goal.returns-clause-sorted
returns-clause-sorted c p kinds premise conclusion = search (rules, c.in_ok-implied.ensures.sorted, c.in_ok-copied.ensures.sorted)

use Rattle.std.proofs.Common.{rules}
use Rattle.clause_terms.proofs.after.after.Goals as goal

pub returns-clause-sorted : goal.returns-clause-sorted
returns-clause-sorted c p kinds fine inside then = search (rules, c.in_ok-fine.ensures.sorted, c.in_ok-inside.ensures.sorted, c.in_ok-stays.ensures.sorted)

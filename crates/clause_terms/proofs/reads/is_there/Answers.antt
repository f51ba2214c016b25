use Rattle.std.proofs.Common.{rules}
use Rattle.clause_terms.proofs.reads.is_there.Goals as goal

pub returns-clause-sorted : goal.returns-clause-sorted
returns-clause-sorted c p kinds set = c.in_ok-live.ensures.sorted p kinds (c.in_ok-copied.ensures.sorted p kinds set) (search rules)

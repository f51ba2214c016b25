use Rattle.std.proofs.Common.{rules}
use Rattle.clause_terms.proofs.truths.lazy.Goals as goal

pub returns-clause-sorted : goal.returns-clause-sorted
returns-clause-sorted c p kinds a b w d e = search (
  rules,
  c.in_ok-reached.ensures.sorted,
  c.in_ok-stays.ensures.sorted,
  c.in_ok-inside.ensures.sorted,
  c.in_ok-given.ensures.sorted,
  c.in_ok-fine.ensures.sorted,
)

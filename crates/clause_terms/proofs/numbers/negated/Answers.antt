use Rattle.clause_terms.proofs.NumberTerms.{told_negated}
use Rattle.clause_terms.proofs.numbers.negated.Goals as goal

pub returns-clause-told : goal.returns-clause-told
returns-clause-told c m v has = told_negated m c.in_ok-zero.zero c.args.number c.in_ok-made.made _ v (c.in_ok-zero.ensures.meaning m) (c.in_ok-made.ensures.meaning m) (c.in_ok-term.ensures.told m) has

pub returns-clause-sorted : goal.returns-clause-sorted
returns-clause-sorted c p kinds n = c.in_ok-term.ensures.sorted p kinds (c.in_ok-made.ensures.sorted p kinds (c.in_ok-zero.ensures.sorted p kinds) n)

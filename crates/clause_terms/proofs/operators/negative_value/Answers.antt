use Rattle.std.proofs.Common.{◌≡◌, true, subst}
use Rattle.clause_terms.specs.Terms.{HasValue, is_sorted_shape}
use Rattle.clause_terms.proofs.operators.negative_value.Goals as goal

pub returns-in-Number-clause-told : goal.returns-in-Number-clause-told
returns-in-Number-clause-told c m v has = c.in_ok-term-in-Number.ensures.told m v (subst (λ s. HasValue m s v) c.in-Number.is has)

pub returns-in-Number-clause-sorted : goal.returns-in-Number-clause-sorted
returns-in-Number-clause-sorted c p kinds value = c.in_ok-term-in-Number.ensures.sorted p kinds (subst (λ s. is_sorted_shape p kinds s ≡ true) c.in-Number.is value)

pub returns-in-Set-clause-sorted : goal.returns-in-Set-clause-sorted
returns-in-Set-clause-sorted c p kinds value = c.in_ok-term-in-Set.ensures.sorted p kinds

pub returns-clause-sorted : goal.returns-clause-sorted
returns-clause-sorted c p kinds value = c.in_ok-term-in-Truth.ensures.sorted p kinds

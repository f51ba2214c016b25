use Rattle.std.proofs.Common.{◌≡◌, true, subst}
use Rattle.clause_terms.specs.Terms.{HasValue, is_sorted_shape}
use Rattle.clause_terms.proofs.operators.on_values.Goals as goal

pub returns-in_ok-term-in-Set-clause-told : goal.returns-in_ok-term-in-Set-clause-told
returns-in_ok-term-in-Set-clause-told c m v u one two = c.in_ok-term-in-Set.ensures.told m v u (subst (λ s. HasValue m s v) c.in-Set.is one) two

pub returns-in_ok-term-in-Set-clause-sorted : goal.returns-in_ok-term-in-Set-clause-sorted
returns-in_ok-term-in-Set-clause-sorted c p kinds left right = c.in_ok-term-in-Set.ensures.sorted p kinds (subst (λ s. is_sorted_shape p kinds s ≡ true) c.in-Set.is left) right

pub returns-in_ok-term-in-Number-clause-told : goal.returns-in_ok-term-in-Number-clause-told
returns-in_ok-term-in-Number-clause-told c m v u one two = c.in_ok-term-in-Number.ensures.told m v u (subst (λ s. HasValue m s v) c.in-Number.is one) two

pub returns-in_ok-term-in-Number-clause-sorted : goal.returns-in_ok-term-in-Number-clause-sorted
returns-in_ok-term-in-Number-clause-sorted c p kinds left right = c.in_ok-term-in-Number.ensures.sorted p kinds (subst (λ s. is_sorted_shape p kinds s ≡ true) c.in-Number.is left) right

pub returns-in_ok-term-in-Truth-clause-told : goal.returns-in_ok-term-in-Truth-clause-told
returns-in_ok-term-in-Truth-clause-told c m v u one two = c.in_ok-term-in-Truth.ensures.told m v u (subst (λ s. HasValue m s v) c.in-Truth.is one) two

pub returns-in_ok-term-in-Truth-clause-sorted : goal.returns-in_ok-term-in-Truth-clause-sorted
returns-in_ok-term-in-Truth-clause-sorted c p kinds left right = c.in_ok-term-in-Truth.ensures.sorted p kinds (subst (λ s. is_sorted_shape p kinds s ≡ true) c.in-Truth.is left) right

use Rattle.std.proofs.Common.{◌≡◌, true, refl, subst}
use Rattle.clause_terms.specs.declared.term.Shape.TheVariants as shape
use Rattle.clause_terms.specs.Terms.{HasValue, is_sorted_shape}
use Rattle.clause_terms.proofs.Reached.{has_no_member}
use Rattle.clause_terms.proofs.reach.has_member.Goals as goal

pub returns-in_ok-term-in-Set-clause-told : goal.returns-in_ok-term-in-Set-clause-told
returns-in_ok-term-in-Set-clause-told c m env fields v u alike one two = c.in_ok-term-in-Set.ensures.told m env fields v u alike one (subst (λ s. HasValue m s u) c.in-Set.is two)

pub returns-in_ok-term-in-Set-clause-sorted : goal.returns-in_ok-term-in-Set-clause-sorted
returns-in_ok-term-in-Set-clause-sorted c p kinds root relations member = c.in_ok-term-in-Set.ensures.sorted p kinds root relations (subst (λ s. is_sorted_shape p kinds s ≡ true) c.in-Set.is member)

pub returns-in_ok-term-in-Number-clause-told : goal.returns-in_ok-term-in-Number-clause-told
returns-in_ok-term-in-Number-clause-told c m env fields v u alike one two = has_no_member m env fields (shape.Number c.in-Number.field-0) _ v u refl
    (subst (λ s. HasValue m s u) c.in-Number.is two) (c.in_ok-term-in-Number.ensures.told m)

pub returns-in_ok-term-in-Number-clause-sorted : goal.returns-in_ok-term-in-Number-clause-sorted
returns-in_ok-term-in-Number-clause-sorted c p kinds root relations member = c.in_ok-term-in-Number.ensures.sorted p kinds

pub returns-in_ok-term-in-Truth-clause-told : goal.returns-in_ok-term-in-Truth-clause-told
returns-in_ok-term-in-Truth-clause-told c m env fields v u alike one two = has_no_member m env fields (shape.Truth c.in-Truth.field-0) _ v u refl
    (subst (λ s. HasValue m s u) c.in-Truth.is two) (c.in_ok-term-in-Truth.ensures.told m)

pub returns-in_ok-term-in-Truth-clause-sorted : goal.returns-in_ok-term-in-Truth-clause-sorted
returns-in_ok-term-in-Truth-clause-sorted c p kinds root relations member = c.in_ok-term-in-Truth.ensures.sorted p kinds

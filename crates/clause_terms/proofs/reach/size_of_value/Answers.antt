use Rattle.std.proofs.Common.{◌≡◌, true, refl, subst}
use Rattle.clause_terms.specs.declared.term.Shape.TheVariants as shape
use Rattle.clause_terms.specs.Terms.{HasValue, is_sorted_shape}
use Rattle.clause_terms.proofs.Reached.{size_no_root}
use Rattle.clause_terms.proofs.reach.size_of_value.Goals as goal

pub returns-in-Set-clause-told : goal.returns-in-Set-clause-told
returns-in-Set-clause-told c m env fields v alike one = c.in_ok-term-in-Set.ensures.told m env fields v alike (subst (λ s. HasValue m s v) c.in-Set.is one)

pub returns-in-Set-clause-sorted : goal.returns-in-Set-clause-sorted
returns-in-Set-clause-sorted c p kinds root relations = c.in_ok-term-in-Set.ensures.sorted p kinds (subst (λ s. is_sorted_shape p kinds s ≡ true) c.in-Set.is root) relations

pub returns-in-Number-clause-told : goal.returns-in-Number-clause-told
returns-in-Number-clause-told c m env fields v alike one = size_no_root m env fields (shape.Number c.in-Number.field-0) _ v refl (subst (λ s. HasValue m s v) c.in-Number.is one)
    (c.in_ok-term-in-Number.ensures.told m)

pub returns-in-Number-clause-sorted : goal.returns-in-Number-clause-sorted
returns-in-Number-clause-sorted c p kinds root relations = c.in_ok-term-in-Number.ensures.sorted p kinds

pub returns-clause-told : goal.returns-clause-told
returns-clause-told c m env fields v alike one = size_no_root m env fields (shape.Truth c.in-Truth.field-0) _ v refl (subst (λ s. HasValue m s v) c.in-Truth.is one)
    (c.in_ok-term-in-Truth.ensures.told m)

pub returns-clause-sorted : goal.returns-clause-sorted
returns-clause-sorted c p kinds root relations = c.in_ok-term-in-Truth.ensures.sorted p kinds

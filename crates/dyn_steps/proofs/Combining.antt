-- Meanings of formulas by those of their parts.
use Rattle.std.proofs.Common.{◌≡◌, Bool, true, false, not, ◌&&◌, ◌||◌, Option, refl, sym, ◌∙◌, ap}
use Rattle.std.specs.Prelude.{ℤ}
use Rattle.std.specs.Ordering.{int_eq}
use Rattle.std.proofs.lemmas.Bool.{false≢true}
use Rattle.taco_unit.specs.declared.kind.Kind.{Kind}
use Rattle.taco_unit.specs.declared.kind.Kind.TheVariants as kind
use Rattle.heap_core.specs.declared.value.Value.{Value}
use Rattle.heap_core.specs.declared.value.Value.TheVariants.{Num}
use Rattle.rel_core.specs.Reading.{Reading}
use Rattle.rel_core.specs.Meaning.{ValueSet, with_both, is_subset}
use Rattle.dyn_core.specs.Kinds.{takes_constant}

pub subset_of : (m : Reading) (a b s t : ValueSet) → a ≡ s → b ≡ t → is_subset m a b ≡ is_subset m s t
subset_of m a b s t first second = ap (λ z. is_subset m z b) first ∙ ap (λ z. is_subset m s z) second

pub both_of : (a b s t : Bool) → a ≡ s → b ≡ t → (a && b) ≡ (s && t)
both_of a b s t first second = ap (λ z. z && b) first ∙ ap (λ z. s && z) second

pub implied_of : (a b s t : Bool) → a ≡ s → b ≡ t → (not a || b) ≡ (not s || t)
implied_of a b s t first second = ap (λ z. not z || b) first ∙ ap (λ z. not s || z) second

pub numbers_of : (a b s t : Option ℤ) → a ≡ s → b ≡ t → with_both a b int_eq false ≡ with_both s t int_eq false
numbers_of a b s t first second = ap (λ z. with_both z b int_eq false) first ∙ ap (λ z. with_both s z int_eq false) second

-- a number can stand for a number alone
pub number_kind : (v : Value) (z : ℤ) (k : Kind) → v ≡ Num z → takes_constant v k ≡ true → k ≡ kind.Int
number_kind v z k is takes = at k (ap (λ u. takes_constant u k) (sym is) ∙ takes)
  where
    at : (k : Kind) → takes_constant (Num z) k ≡ true → k ≡ kind.Int
    at kind.Int takes = refl
    at kind.Flag takes = absurd (false≢true takes)
    at (kind.Ref c) takes = absurd (false≢true takes)

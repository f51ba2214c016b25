-- Terms of numbers.
use Rattle.std.proofs.Common.{◌≡◌, ℕ, Bool, true, false, Option, Some, None, refl, ap, ◌∙◌, subst}
use Rattle.std.specs.Prelude.{ℤ, option_map, is_some, if◌then◌else◌}
use Rattle.heap_core.specs.declared.value.Value.TheVariants.{Num}
use Rattle.heap_core.specs.declared.value.Seen.TheVariants.{Is, Out}
use Rattle.heap_core.specs.Outcomes.{in_bits, number, value_in}
use Rattle.rel_core.specs.declared.formula.Formula.{Formula}
use Rattle.rel_core.specs.declared.numbers.NumExpr.{NumExpr}
use Rattle.rel_core.specs.Reading.{Reading}
use Rattle.rel_core.specs.Meaning.{fitting, number_of, holds}
use Rattle.clause_terms.specs.declared.term.Shape.TheVariants as shape
use Rattle.clause_terms.specs.declared.term.Term.{Term}
use Rattle.clause_terms.specs.Terms.{Tells}

-- a number, where there is one
pub told_number : (m : Reading) (n : NumExpr) (fine inside : Formula) → holds fine m ≡ is_some (number_of n m) → holds inside m ≡ is_some (number_of n m)
    → Tells (value_in (option_map Num (number_of n m))) (record { value = shape.Number n; fine = fine; inside = inside }) m
told_number m n fine inside f i = go (number_of n m) refl
  where
    go : (z : Option ℤ) → number_of n m ≡ z → Tells (value_in (option_map Num z)) (record { value = shape.Number n; fine = fine; inside = inside }) m
    go (Some z) is = record { fine = f ∙ ap is_some is; inside = i ∙ ap is_some is; value = ap (option_map Num) is }
    go None is = record { fine = f ∙ ap is_some is; inside = i ∙ ap is_some is; value = tt }

-- a number that fits is one that lies in the bits
pub fitting_number : (w : ℕ) (z : ℤ) → value_in (option_map Num (fitting w z)) ≡ number w z
fitting_number w z = go (in_bits w z)
  where
    go : (b : Bool) → value_in (option_map Num (if b then Some z else None)) ≡ (if b then Is (Num z) else Out)
    go true = refl
    go false = refl

-- a term of a number that fits
pub told_fitting : (m : Reading) (t : Term) (n : Option ℤ) (z : ℤ) → n ≡ fitting m.ints z → Tells (value_in (option_map Num n)) t m → Tells (number m.ints z) t m
told_fitting m t n z is told = subst (λ s. Tells s t m) (ap (λ x. value_in (option_map Num x)) is ∙ fitting_number m.ints z) told

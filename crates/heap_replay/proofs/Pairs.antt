-- Lists that are gone through side by side.
use Rattle.std.proofs.Common.{◌≡◌, ℕ, zero, suc, ◌≤◌, min, List, [], ◌∷◌, length, drop, refl, arith}
use Rattle.std.specs.Prelude.{zip}

no_second : {A B : Type 0} (xs : List A) (ys : List B) → ys ≡ [] → zip xs ys ≡ []
no_second [] ys none = refl
no_second (x ∷ xs) [] none = refl
no_second (x ∷ xs) (y ∷ ys) none = absurd (cc)

-- behind the end of the shorter one there are no pairs
pub no_pairs : {A B : Type 0} (xs : List A) (ys : List B) (i : ℕ) → min (length xs) (length ys) ≤ i → zip (drop i xs) (drop i ys) ≡ []
no_pairs [] ys zero end = refl
no_pairs [] ys (suc i) end = refl
no_pairs (x ∷ xs) [] zero end = refl
no_pairs (x ∷ xs) [] (suc i) end = no_second (drop i xs) [] refl
no_pairs (x ∷ xs) (y ∷ ys) zero end = absurd (omega arith)
no_pairs (x ∷ xs) (y ∷ ys) (suc i) end = no_pairs xs ys i (omega arith)

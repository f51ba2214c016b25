-- Items of lists: the only one, and the last.
use Rattle.std.proofs.Common.{◌≡◌, ℕ, zero, suc, List, [], ◌∷◌, ◌++◌, length, Some, refl, subst}
use Rattle.std.specs.Prelude.{slice_get}
use Rattle.std.proofs.lemmas.Option.{same_Some, none-some}

pub only : {A : Type 0} (P : ℕ → A → Type 0) (x : A) → P 0 x → (i : ℕ) (y : A) → slice_get (x ∷ []) i ≡ Some y → P i y
only P x holds zero y is = subst (P 0) (same_Some x y is) holds
only P x holds (suc i) y is = absurd (none-some y is)

pub append_last : {A : Type 0} (xs : List A) (y : A) → slice_get (xs ++ y ∷ []) (length xs) ≡ Some y
append_last [] y = refl
append_last (x ∷ xs) y = append_last xs y

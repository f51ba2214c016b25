-- An element by its place, in a list to which others are appended.
use Rattle.std.proofs.Common.{◌≡◌, ℕ, ◌<◌, suc, zero, List, [], ◌∷◌, ◌++◌, length, refl, ap, ◌∙◌, arith, inl, inr, ◌⊎◌}
use Rattle.std.specs.Prelude.{Some, slice_get}
use Rattle.std.proofs.lemmas.Option.{slice_get_within, none-some, same_Some}

pub slice_get-append_left : {X : Type 0} (xs ys : List X) (i : ℕ) → i < length xs → slice_get (xs ++ ys) i ≡ slice_get xs i
slice_get-append_left [] ys i within = absurd (omega arith)
slice_get-append_left (x ∷ xs) ys zero within = refl
slice_get-append_left (x ∷ xs) ys (suc i) within = slice_get-append_left xs ys i (omega arith)

pub slice_get-append_seam : {X : Type 0} (xs ys : List X) (y : X) → slice_get (xs ++ y ∷ ys) (length xs) ≡ Some y
slice_get-append_seam [] ys y = refl
slice_get-append_seam (x ∷ xs) ys y = slice_get-append_seam xs ys y

-- what stands in a list stands where others are appended
pub slice_get-append : {X : Type 0} (xs ys : List X) (i : ℕ) (x : X) → slice_get xs i ≡ Some x → slice_get (xs ++ ys) i ≡ Some x
slice_get-append xs ys i x at = slice_get-append_left xs ys i (slice_get_within xs i x at) ∙ at

-- what stands behind a push stood before it, or was pushed
pub slice_get-push : {X : Type 0} (xs : List X) (y x : X) (i : ℕ) → slice_get (xs ++ y ∷ []) i ≡ Some x → (slice_get xs i ≡ Some x) ⊎ ((i ≡ length xs) × (x ≡ y))
slice_get-push [] y x zero at = inr (refl, grind arith)
slice_get-push [] y x (suc i) at = absurd (none-some x at)
slice_get-push (z ∷ xs) y x zero at = inl at
slice_get-push (z ∷ xs) y x (suc i) at =
    elim (slice_get-push xs y x i at) [ inl before ↦ inl before | inr here ↦ inr (ap suc here.0, here.1) ]

-- a list is what stands before an element, the element, and the rest
pub split_at_place : {X : Type 0} (xs : List X) (i : ℕ) (x : X) → slice_get xs i ≡ Some x → (before : List X) × (behind : List X) × (xs ≡ (before ++ x ∷ []) ++ behind) × (length before ≡ i)
split_at_place [] i x at = absurd (none-some x at)
split_at_place (y ∷ xs) zero x at = ([], xs, ap (λ z. z ∷ xs) (same_Some y x at), refl)
split_at_place (y ∷ xs) (suc i) x at =
    let rest = split_at_place xs i x at in
    (y ∷ rest.0, rest.1, ap (λ zs. y ∷ zs) rest.2, ap suc rest.3)

-- Ranges of numbers, and lists of index 0.
use Rattle.std.proofs.Common.{◌≡◌, ℕ, zero, suc, ◌+◌, List, [], ◌∷◌, ◌++◌, refl, ap, ◌∙◌, arith, get_or, replicate}
use Rattle.std.specs.Prelude.{◌==◌, map, if◌then◌else◌, Bool, true, false}
use Rattle.std.specs.List.{range_with_len}
use Rattle.rel_core.specs.Shown.{slot_index}

range_last : (a n : ℕ) → range_with_len a (n + 1) ≡ range_with_len a n ++ (a + n) ∷ []
range_last a zero = let e : a ≡ a + 0 = omega arith in ap (λ x. x ∷ []) e
range_last a (suc n) =
    let longer : suc n + 1 ≡ suc (n + 1) = omega arith in
    let last : a + 1 + n ≡ a + suc n = omega arith in
    ap (range_with_len a) longer ∙ ap (λ xs. a ∷ xs) (range_last (a + 1) n) ∙ ap (λ x. a ∷ (range_with_len (a + 1) n ++ x ∷ [])) last

pub numbers_last : (n : ℕ) → range_with_len 0 (n + 1) ≡ range_with_len 0 n ++ n ∷ []
numbers_last n = let e : 0 + n ≡ n = omega arith in range_last 0 n ∙ ap (λ x. range_with_len 0 n ++ x ∷ []) e

pub all_alike : (z n f : ℕ) → get_or (replicate n z) f z ≡ z
all_alike z zero f = refl
all_alike z (suc n) zero = refl
all_alike z (suc n) (suc f) = all_alike z n f

pub indices_zero : (xs : List ℕ) (y : ℕ) → slot_index (map (λ x. (x, 0)) xs) y ≡ 0
indices_zero [] y = refl
indices_zero (x ∷ xs) y = either (x == y) (indices_zero xs y)
  where
    either : (b : Bool) {n : ℕ} → n ≡ 0 → (if b then 0 else n) ≡ 0
    either true is = refl
    either false is = is

pub first_of_pairs : (xs : List ℕ) → map (λ (s : ℕ × ℕ). s.0) (map (λ (x : ℕ). (x, 0)) xs) ≡ xs
first_of_pairs [] = refl
first_of_pairs (x ∷ xs) = ap (λ ys. x ∷ ys) (first_of_pairs xs)

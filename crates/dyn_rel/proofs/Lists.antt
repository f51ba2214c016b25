-- Indices with the numbers of their variables, and lists of zeros.
use Rattle.std.proofs.Common.{◌≡◌, ℕ, suc, ◌+◌, ◌<◌, ◌≤◌, List, [], ◌∷◌, ◌++◌, length, map, take, refl, sym, ◌∙◌, ap, inl, inr, arith, get_or, replicate}
use Rattle.std.specs.List.{range_with_len}
use Rattle.std.proofs.lemmas.List.{take_more, take_all, length-take-le, get_or-replicate, get_or_past, length-replicate}
use Rattle.dyn_steps.specs.Points.{numbered}
use Rattle.dyn_rel.proofs.Joints.{less_or_not}

abbrev zeros : ℕ → List ℕ
zeros n = replicate n 0

zeros_long : (n : ℕ) → length (zeros n) ≡ n
zeros_long n = length-replicate n 0

pub zero_at : (n x : ℕ) → get_or (zeros n) x 0 ≡ 0
zero_at n x = elim (less_or_not x n) [
  | inl low ↦ get_or-replicate n x 0 0 low
  | inr high ↦ get_or_past (zeros n) x 0 (let many = zeros_long n in omega (arith, high, many))
]

-- one more index
numbered_last : (a : ℕ) (xs : List ℕ) (i j : ℕ) → j ≡ a + length xs → numbered a (xs ++ i ∷ []) ≡ numbered a xs ++ (j, i) ∷ []
numbered_last a [] i j is = ap (λ k. (k, i) ∷ []) (let same : a ≡ j = omega (arith, is) in same)
numbered_last a (x ∷ xs) i j is = ap (λ ys. (a, x) ∷ ys) (numbered_last (suc a) xs i j (omega (arith, is)))

pub numbered_more :
    (indices : List ℕ) (place variable index : ℕ) (all ys : List (ℕ × ℕ))
    → place < length indices
    → variable ≡ place
    → index ≡ get_or indices place 0
    → ys ≡ all ++ (variable, index) ∷ []
    → all ≡ numbered 0 (take place indices)
    → ys ≡ numbered 0 (take (place + 1) indices)
numbered_more indices place variable index all ys low is_variable is_index is_ys before =
    is_ys ∙ ap (λ z. z ++ (variable, index) ∷ []) before
    ∙ sym (ap (numbered 0) (take_more indices place 0 low ∙ ap (λ z. take place indices ++ z ∷ []) (sym is_index))
    ∙ numbered_last 0 (take place indices) index variable (let long = length-take-le place indices (omega (arith, low)) in omega (arith, is_variable, long)))

pub numbered_all : (indices : List ℕ) (place : ℕ) (all : List (ℕ × ℕ)) → length indices ≤ place → all ≡ numbered 0 (take place indices) → all ≡ numbered 0 indices
numbered_all indices place all high is = is ∙ ap (numbered 0) (take_all place indices high)

-- the numbers of the variables
pub numbers_of : (a : ℕ) (indices : List ℕ) → map (λ s. s.0) (numbered a indices) ≡ range_with_len a (length indices)
numbers_of a [] = refl
numbers_of a (i ∷ indices) = ap (λ xs. a ∷ xs) (numbers_of (suc a) indices ∙ ap (λ k. range_with_len k (length indices)) (let on : suc a ≡ a + 1 = omega arith in on))

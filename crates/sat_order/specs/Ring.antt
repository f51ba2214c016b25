use Rattle.std.specs.Prelude.{ℕ, zero, suc, List, [], ◌∷◌, ◌≡◌, ◌<◌, length, slice_index, true}
use Rattle.sat_order.specs.Lists.{holds, EachOnce}

-- a ring as contracts see it: how many variables it may hold, and those that it holds, in order
pub record Held : Type 0 where
  pub vars : ℕ
  pub order : List ℕ

-- the links lead from a over the elements to b, and back
abbrev pub Linked : List ℕ → List ℕ → ℕ → List ℕ → ℕ → Type 0
Linked next previous a [] b = (slice_index next a ≡ b) × (slice_index previous b ≡ a)
Linked next previous a (x ∷ xs) b = (slice_index next a ≡ x) × (slice_index previous x ≡ a) × Linked next previous x xs b

-- what is read along the links in so many steps
abbrev pub along : List ℕ → ℕ → ℕ → List ℕ
along next zero at = []
along next (suc steps) at = at ∷ along next steps (slice_index next at)

-- place 0 leads over the elements and back to itself, in either direction, and each element stands there once
pub record IsRing (next previous order : List ℕ) : Type 0 where
  pub linked : Linked next previous 0 order 0
  pub once : EachOnce (0 ∷ order)
  pub within : (x : ℕ) → holds order x ≡ true → x < length next
  pub paired : length previous ≡ length next

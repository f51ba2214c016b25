use Rattle.std.specs.Prelude.{ℕ, Bool, not, true, List, [], ◌∷◌, ◌≡◌, ◌+◌, ◌-◌, ◌<◌, ◌≤◌, ◌↔◌, filter, ◌++◌, length, slice_index, slice_index_or, false, ⊤}
use Rattle.sat_order.specs.Ring.{Held}
use Rattle.sat_order.specs.Lists.{holds, EachOnce, before}

-- a queue as contracts see it: its variables, the front first, and the one at which the cursor stands; 0: it is past them all
pub record Order : Type 0 where
  pub vars : List ℕ
  pub cursor : ℕ

-- the variables before the cursor
abbrev pub passed : Order → List ℕ
passed q = before q.cursor q.vars

-- these variables in front of the others, both in the order in which they stand
abbrev pub moved_up : List ℕ → List ℕ → List ℕ
moved_up vs xs = filter (holds vs) xs ++ filter (λ x. not (holds vs x)) xs

-- each variable from 1 to their number stands there, and stands there once
pub record IsOrder (vars : List ℕ) : Type 0 where
  pub once : EachOnce vars
  pub each : (v : ℕ) → (holds vars v ≡ true) ↔ ((0 < v) × (v ≤ length vars))

-- the variable has no value; the entry of variable v stands at v - 1
abbrev pub is_free : List Bool → ℕ → Bool
is_free set v = not (slice_index_or set (v - 1) false)

-- the stamps fall along the list, and all are below the bound
abbrev pub Falls : List ℕ → ℕ → List ℕ → Type 0
Falls stamps bound [] = ⊤
Falls stamps bound (x ∷ xs) = (slice_index stamps x < bound) × Falls stamps (slice_index stamps x) xs

-- the parts of a queue belong together
pub record IsQueue (ring : Held) (at : ℕ) (stamps : List ℕ) (newest : ℕ) : Type 0 where
  pub order : IsOrder ring.order
  pub all : length ring.order ≡ ring.vars
  pub cursor : holds (0 ∷ ring.order) at ≡ true
  pub stamped : length stamps ≡ ring.vars + 1
  pub falls : Falls stamps (newest + 1) ring.order

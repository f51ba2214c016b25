use Rattle.std.specs.Prelude.{ℕ, Bool, not, List, [], ◌∷◌, ◌≡◌, ◌==◌, filter, false, if◌then◌else◌, ⊤}
use Rattle.std.specs.List.{list_any}

-- whether the list has the element
abbrev pub holds : List ℕ → ℕ → Bool
holds xs x = list_any (λ y. y == x) xs

-- no element stands at two places
abbrev pub EachOnce : List ℕ → Type 0
EachOnce [] = ⊤
EachOnce (x ∷ xs) = (holds xs x ≡ false) × EachOnce xs

-- the first element, or 0
abbrev pub first_of : List ℕ → ℕ
first_of [] = 0
first_of (x ∷ xs) = x

-- the element behind x, or 0
abbrev pub after : ℕ → List ℕ → ℕ
after x [] = 0
after x (y ∷ ys) = if y == x then first_of ys else after x ys

-- the elements before x, or all where x is none of them
abbrev pub before : ℕ → List ℕ → List ℕ
before x [] = []
before x (y ∷ ys) = if y == x then [] else y ∷ before x ys

-- the elements from x on, or none where x is none of them
abbrev pub from : ℕ → List ℕ → List ℕ
from x [] = []
from x (y ∷ ys) = if y == x then y ∷ ys else from x ys

-- the other elements
abbrev pub without : ℕ → List ℕ → List ℕ
without x xs = filter (λ y. not (y == x)) xs

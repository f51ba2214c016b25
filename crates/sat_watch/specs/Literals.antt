-- Literals that are true, and lists of literals.
use Rattle.std.specs.Prelude.{◌≡◌, ℕ, ◌+◌, ◌*◌, ◌==◌, Bool, true, false, Option, Some, None, List, [], ◌∷◌, ⊤, if◌then◌else◌}
use Rattle.std.specs.List.{list_any}
use Rattle.cnf_core.specs.Literal.{negated}
use Rattle.cnf_core.specs.Trues.{is_true}

-- whether a list has an element
abbrev pub has : List ℕ → ℕ → Bool
has xs x = list_any (λ y. y == x) xs

-- No element stands at two places.
abbrev pub EachOnce : List ℕ → Type 0
EachOnce [] = ⊤
EachOnce (x ∷ xs) = (has xs x ≡ false) × EachOnce xs

-- the value of a variable
abbrev pub value_of : List ℕ → ℕ → Option Bool
value_of trues var = if is_true trues (2 * var) then Some true else (if is_true trues (2 * var + 1) then Some false else None)

-- A literal has no value.
abbrev pub IsOpen : List ℕ → ℕ → Type 0
IsOpen trues lit = (is_true trues lit ≡ false) × (is_true trues (negated lit) ≡ false)

-- No two are of one variable.
abbrev pub AreApart : List ℕ → Type 0
AreApart [] = ⊤
AreApart (lit ∷ lits) = IsOpen lits lit × AreApart lits

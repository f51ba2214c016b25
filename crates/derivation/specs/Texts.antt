-- What the texts of formulas and logs are made of.
use Rattle.std.specs.Prelude.{ℕ, ◌/◌, List, [], ◌∷◌, ◌++◌, if◌then◌else◌}
use Rattle.std.specs.Fmt.{decimal}
use Rattle.std.specs.List.{flat_map}
use Rattle.cnf_core.specs.Literal.{is_negative}

-- the decimal number of a literal's variable, behind a `-` for a negative one; that of 0 is `0`, which ends a clause
abbrev pub literal_text : ℕ → List ℕ
literal_text lit = if is_negative lit then 45 ∷ decimal (lit / 2) else decimal (lit / 2)

-- words, each with a space behind it
abbrev pub spaced : List (List ℕ) → List ℕ
spaced words = flat_map (λ word. word ++ 32 ∷ []) words

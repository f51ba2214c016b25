-- Pieces with a space behind each.
use Rattle.std.specs.Prelude.{ℕ, List, [], ◌∷◌, ◌++◌}
use Rattle.std.specs.List.{flat_map}

abbrev pub spaced : List (List ℕ) → List ℕ
spaced pieces = flat_map (λ piece. piece ++ 32 ∷ []) pieces

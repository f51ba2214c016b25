-- Rows that are others but for some objects. (This project's own.)
use Rattle.std.specs.Prelude.{ℕ, ◌+◌, ◌*◌, Bool, List, length, if◌then◌else◌}
use Rattle.std.specs.List.{slice_index_or, list_all, range_with_len}
use Rattle.gate_sets.specs.Shapes.{are_same}

-- at an object's row: the given row where the object is one of the members, and else the old row
abbrev pub row_changes : ℕ → (ℕ → Bool) → List ℕ → List ℕ → List ℕ → List ℕ → ℕ → Bool
row_changes width truth members new given old o =
    are_same width (λ i. truth (slice_index_or new (o * width + i) 0))
    (λ i. if truth (slice_index_or members o 0) then truth (slice_index_or given i 0) else truth (slice_index_or old (o * width + i) 0))

-- at each object
abbrev pub rows_change : ℕ → (ℕ → Bool) → List ℕ → List ℕ → List ℕ → List ℕ → Bool
rows_change width truth members new given old = list_all (row_changes width truth members new given old) (range_with_len 0 (length members))

-- Which literals are true, as the list of those that were made true.
use Rattle.std.specs.Prelude.{◌≡◌, ℕ, ◌==◌, Bool, false, List, slice_index_or}
use Rattle.std.specs.List.{list_any}

-- whether a literal is true; it is false where its negation is
abbrev pub is_true : List ℕ → ℕ → Bool
is_true trues lit = list_any (λ made. made == lit) trues

-- Exactly the literals that are true are marked at their number; past its end the table marks none.
abbrev pub AreMarks : List Bool → List ℕ → Type 0
AreMarks marks trues = (lit : ℕ) → slice_index_or marks lit false ≡ is_true trues lit

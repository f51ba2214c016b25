-- What lists of gates show under values of the inputs.
use Rattle.std.specs.Prelude.{◌≡◌, ℕ, ◌+◌, ◌*◌, ◌<◌, Bool, List, length, All}
use Rattle.std.specs.List.{slice_index_or}
use Rattle.gate_core.specs.declared.circuit.Node.{Node}
use Rattle.gate_core.specs.Circuit.{value, IsOf}

-- the truth of the gate at a place, and false where there is none
abbrev pub at : List Node → List ℕ → (ℕ → Bool) → ℕ → Bool
at nodes gates inputs i = value inputs nodes (slice_index_or gates i 0)

-- so many gates of the circuit, each true exactly where this is true of its place
pub record AreTruths (nodes : List Node) (count : ℕ) (truth : (ℕ → Bool) → ℕ → Bool) (gates : List ℕ) : Type 0 where
  pub of : All (IsOf nodes) gates
  pub wide : length gates ≡ count
  pub values : (inputs : ℕ → Bool) (i : ℕ) → i < count → at nodes gates inputs i ≡ truth inputs i

-- of rows of one width, one behind the other, the truth of the gate at a place of a row
abbrev pub in_row : ℕ → List Node → List ℕ → (ℕ → Bool) → ℕ → ℕ → Bool
in_row width nodes rows inputs o i = at nodes rows inputs (o * width + i)

-- so many rows of this width, each gate true exactly where this is true of its row and place
pub record AreRows (nodes : List Node) (count width : ℕ) (truth : (ℕ → Bool) → ℕ → ℕ → Bool) (rows : List ℕ) : Type 0 where
  pub of : All (IsOf nodes) rows
  pub long : length rows ≡ count * width
  pub values : (inputs : ℕ → Bool) (o i : ℕ) → o < count → i < width → in_row width nodes rows inputs o i ≡ truth inputs o i

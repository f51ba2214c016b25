-- What an operation makes of a circuit: gates with the values of truths and numbers.
use Rattle.std.specs.Prelude.{◌≡◌, ℕ, ℤ, Bool, true, List, length, map, drop, All, ◌+◌, ◌*◌, if◌then◌else◌, pos, ◌+ℤ◌}
use Rattle.gate_core.specs.declared.circuit.Node.{Node}
use Rattle.gate_core.specs.Circuit.{value, IsOf}
use Rattle.gate_arith.specs.Numbers.{bit, signed, is_within}

-- the truth values of gates
abbrev pub bits : (ℕ → Bool) → List Node → List ℕ → List Bool
bits inputs nodes gates = map (value inputs nodes) gates

-- the number that gates show
abbrev pub shown : List Node → List ℕ → (ℕ → Bool) → ℤ
shown nodes gates inputs = signed (bits inputs nodes gates)

-- a gate of the circuit, which is true exactly where this is
pub record IsTruth (nodes : List Node) (truth : (ℕ → Bool) → Bool) (gate : ℕ) : Type 0 where
  pub of : IsOf nodes gate
  pub value_is : (inputs : ℕ → Bool) → value inputs nodes gate ≡ truth inputs

-- a number of this width, and a gate that says whether the exact number lies within the width; where it
-- does, the number is the exact one
pub record IsNumber (nodes : List Node) (width : ℕ) (exact : (ℕ → Bool) → ℤ) (number : List ℕ) (within : ℕ) : Type 0 where
  pub of : All (IsOf nodes) number
  pub wide : length number ≡ width
  pub within_is : IsTruth nodes (λ inputs. is_within width (exact inputs)) within
  pub number_is : (inputs : ℕ → Bool) → is_within width (exact inputs) ≡ true → shown nodes number inputs ≡ exact inputs

-- the two bits of a sum: that of its place, and the carry to the next
pub record AddsBits (nodes : List Node) (exact : (ℕ → Bool) → ℕ) (sum carry : ℕ) : Type 0 where
  pub sum_of : IsOf nodes sum
  pub carry_of : IsOf nodes carry
  pub sum_is : (inputs : ℕ → Bool) → bit (value inputs nodes sum) + 2 * bit (value inputs nodes carry) ≡ exact inputs

-- gates with the bits of one list where the condition is true, and else with those of the other
pub record IsSelected (old new : List Node) (condition : ℕ) (a b gates : List ℕ) : Type 0 where
  pub of : All (IsOf new) gates
  pub wide : length gates ≡ length a
  pub bits_are : (inputs : ℕ → Bool) → bits inputs new gates ≡ (if value inputs old condition then bits inputs old a else bits inputs old b)

-- the factor where its bit is set, added to a number doubled
abbrev pub doubled_with : List Node → ℕ → List ℕ → List ℕ → (ℕ → Bool) → ℤ
doubled_with nodes condition a gates inputs =
    (if value inputs nodes condition then shown nodes a inputs else pos 0) +ℤ (shown nodes gates inputs +ℤ shown nodes gates inputs)

-- the number of the bits from a place on
abbrev pub high : List Node → List ℕ → ℕ → (ℕ → Bool) → ℤ
high nodes gates place inputs = signed (drop place (bits inputs nodes gates))

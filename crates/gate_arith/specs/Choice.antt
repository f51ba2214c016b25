-- How far a choice between two lists has come, place by place.
use Rattle.std.specs.Prelude.{◌≡◌, ℕ, Bool, List, length, take, All, if◌then◌else◌}
use Rattle.gate_core.specs.declared.circuit.Node.{Node}
use Rattle.gate_core.specs.Circuit.{value, IsOf, Keeps}
use Rattle.gate_arith.specs.Operations.{bits}

-- what is known after some places: the gates have the bits of the first list where the condition is true, and
-- else those of the second
pub record IsChoice (old new : List Node) (condition : ℕ) (a b : List ℕ) (i : ℕ) (chosen : List ℕ) : Type 0 where
  pub keeps : Keeps old new
  pub of : All (IsOf new) chosen
  pub wide : length chosen ≡ i
  pub bits_are : (inputs : ℕ → Bool) → bits inputs new chosen ≡ (if value inputs old condition then bits inputs old (take i a) else bits inputs old (take i b))

-- How far a comparison has come, place by place.
use Rattle.std.specs.Prelude.{◌≡◌, ℕ, Bool, List, take}
use Rattle.gate_core.specs.declared.circuit.Node.{Node}
use Rattle.gate_core.specs.Circuit.{value, IsOf, Keeps}
use Rattle.gate_arith.specs.Numbers.{number}
use Rattle.gate_arith.specs.Operations.{bits}

-- what is known after some places: the gate has the value of the test on the numbers so far
pub record IsTested (test : ℕ → ℕ → Bool) (old new : List Node) (a b : List ℕ) (i gate : ℕ) : Type 0 where
  pub keeps : Keeps old new
  pub of : IsOf new gate
  pub truth : (inputs : ℕ → Bool) → value inputs new gate ≡ test (number (bits inputs old (take i a))) (number (bits inputs old (take i b)))

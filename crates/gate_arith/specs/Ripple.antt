-- How far a sum has come, place by place.
use Rattle.std.specs.Prelude.{◌≡◌, ℕ, ◌+◌, ◌*◌, ◌^◌, Bool, List, length, take, All}
use Rattle.gate_core.specs.declared.circuit.Node.{Node}
use Rattle.gate_core.specs.Circuit.{value, IsOf, Keeps}
use Rattle.gate_arith.specs.Numbers.{bit, number}
use Rattle.gate_arith.specs.Operations.{bits}

-- what is known after some places: the sum so far, with the carry, is that of the places so far
pub record IsPartial (old new : List Node) (a b : List ℕ) (first i : ℕ) (sum : List ℕ) (carry : ℕ) : Type 0 where
  pub keeps : Keeps old new
  pub of : All (IsOf new) sum
  pub wide : length sum ≡ i
  pub carry_of : IsOf new carry
  pub sum_is : (inputs : ℕ → Bool) → number (bits inputs new sum) + 2 ^ i * bit (value inputs new carry)
      ≡ number (bits inputs old (take i a)) + number (bits inputs old (take i b)) + bit (value inputs old first)

-- How far a count has come, bit by bit.
use Rattle.std.specs.Prelude.{◌≡◌, ℕ, ◌^◌, nat_le, Bool, false, List, length, take, All}
use Rattle.gate_core.specs.declared.circuit.Node.{Node}
use Rattle.gate_core.specs.Circuit.{value, IsOf, Keeps}
use Rattle.gate_arith.specs.Numbers.{number, how_many}
use Rattle.gate_arith.specs.Operations.{bits}

-- what is known after some bits: whether their count left the places, and else the places show it
pub record IsCounted (old new : List Node) (counted : List ℕ) (places i : ℕ) (low : List ℕ) (over : ℕ) : Type 0 where
  pub keeps : Keeps old new
  pub of : All (IsOf new) low
  pub wide : length low ≡ places
  pub over_of : IsOf new over
  pub over_is : (inputs : ℕ → Bool) → value inputs new over ≡ nat_le (2 ^ places) (how_many (bits inputs old (take i counted)))
  pub low_is : (inputs : ℕ → Bool) → value inputs new over ≡ false → number (bits inputs new low) ≡ how_many (bits inputs old (take i counted))

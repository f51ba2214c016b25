use Rattle.std.proofs.Common.{◌<◌, ℕ, length, ◌*ℤ◌, Bool}
use Rattle.gate_core.specs.Circuit.{Keeps}
use Rattle.gate_arith.specs.Operations.{shown, high, IsNumber}
use Rattle.gate_arith.proofs.multiplier.product.Given as goal

abbrev pub invariant-loop-place : goal.invariant-loop-place
invariant-loop-place l = record {
  before : l.place < length l.a;
  keeps : Keeps l.fn.gates l.gates;
  number : IsNumber l.gates (length l.a) (λ (inputs : ℕ → Bool). shown l.fn.gates l.a inputs *ℤ high l.fn.gates l.b l.place inputs) l.number.items l.within;
}

abbrev pub decreases-loop-place : goal.decreases-loop-place
decreases-loop-place l = l.place

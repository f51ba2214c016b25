use Rattle.std.proofs.Common.{ℕ, Bool}
use Rattle.std.specs.List.{list_any, range_with_len}
use Rattle.gate_core.specs.Circuit.{Keeps}
use Rattle.gate_arith.specs.Operations.{IsTruth}
use Rattle.gate_sets.specs.Lists.{at}
use Rattle.gate_sets.specs.Shapes.{are_many}
use Rattle.gate_sets.proofs.sets.many.Given as goal

abbrev pub invariant-loop-place : goal.invariant-loop-place
invariant-loop-place l = record {
  keeps : Keeps l.fn.gates l.gates;
  some : IsTruth l.gates (λ (inputs : ℕ → Bool). list_any (at l.fn.gates l.list inputs) (range_with_len 0 l.place)) l.some;
  many : IsTruth l.gates (λ (inputs : ℕ → Bool). are_many l.place (at l.fn.gates l.list inputs)) l.many;
}

use Rattle.std.proofs.Common.{ℕ, Bool, length}
use Rattle.gate_core.specs.Circuit.{Keeps}
use Rattle.gate_sets.specs.Lists.{at, AreTruths}
use Rattle.gate_sets.specs.Shapes.{is_only}
use Rattle.gate_sets.proofs.sets.only.Given as goal

abbrev pub invariant-loop-place : goal.invariant-loop-place
invariant-loop-place l = record {
  keeps : Keeps l.initial.gates l.gates;
  so_far : AreTruths l.gates l.place (λ (inputs : ℕ → Bool) (o : ℕ). is_only (length l.list) (at l.fn.gates l.list inputs) o) l.only.items;
}

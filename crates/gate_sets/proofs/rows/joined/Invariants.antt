use Rattle.std.proofs.Common.{ℕ, Bool, length}
use Rattle.gate_core.specs.Circuit.{Keeps}
use Rattle.gate_sets.specs.Lists.{at, in_row, AreTruths}
use Rattle.gate_sets.specs.Shapes.{any_row}
use Rattle.gate_sets.proofs.rows.joined.Given as goal

abbrev pub invariant-loop-place : goal.invariant-loop-place
invariant-loop-place l = record {
  keeps : Keeps l.fn.gates l.gates;
  so_far : AreTruths l.gates l.place (λ (inputs : ℕ → Bool) (i : ℕ). any_row (length l.chosen) (at l.fn.gates l.chosen inputs) (in_row l.width l.fn.gates l.rows inputs) i) l.joined.items;
}

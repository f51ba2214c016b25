use Rattle.std.proofs.Common.{ℕ, Bool}
use Rattle.gate_core.specs.Circuit.{Keeps}
use Rattle.gate_sets.specs.Lists.{in_row, AreRows}
use Rattle.gate_sets.specs.Shapes.{any_row}
use Rattle.gate_sets.proofs.graphs.squared.Given as goal

abbrev pub invariant-loop-place : goal.invariant-loop-place
invariant-loop-place l = record {
  keeps : Keeps l.fn.gates l.gates;
  so_far : AreRows l.gates l.place l.count (λ (inputs : ℕ
      → Bool) (p o : ℕ). any_row l.count (in_row l.count l.fn.gates l.graph inputs p) (in_row l.count l.fn.gates l.graph inputs) o) l.all.items;
}

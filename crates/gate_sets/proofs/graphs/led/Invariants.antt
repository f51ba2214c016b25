use Rattle.std.proofs.Common.{ℕ, ◌+◌, Bool, ◌||◌}
use Rattle.gate_core.specs.Circuit.{Keeps}
use Rattle.gate_sets.specs.Lists.{in_row, AreRows}
use Rattle.gate_sets.proofs.graphs.led.Given as goal

abbrev pub invariant-loop-place : goal.invariant-loop-place
invariant-loop-place l = record {
  keeps : Keeps l.fn.gates l.gates;
  so_far : AreRows l.gates l.place l.fn.objects (λ (inputs : ℕ
      → Bool) (p o : ℕ). in_row l.fn.objects l.fn.gates l.graph inputs p o || in_row (l.fn.objects + 1) l.fn.gates l.relation inputs p (o + 1)) l.all.items;
}

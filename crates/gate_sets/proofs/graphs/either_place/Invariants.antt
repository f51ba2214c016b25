use Rattle.std.proofs.Common.{ℕ, Bool, ◌||◌}
use Rattle.gate_core.specs.Circuit.{Keeps}
use Rattle.gate_sets.specs.Lists.{at, AreTruths}
use Rattle.gate_sets.proofs.graphs.either_place.Given as goal

abbrev pub invariant-loop-place : goal.invariant-loop-place
invariant-loop-place l = record {
  keeps : Keeps l.fn.gates l.gates;
  so_far : AreTruths l.gates l.place (λ (inputs : ℕ → Bool) (i : ℕ). at l.fn.gates l.a inputs i || at l.fn.gates l.b inputs i) l.places.items;
}

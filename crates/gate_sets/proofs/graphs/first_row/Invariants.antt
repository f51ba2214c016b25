use Rattle.std.proofs.Common.{ℕ, Bool, ◌||◌}
use Rattle.std.specs.Prelude.{◌==◌}
use Rattle.gate_sets.specs.Lists.{at, AreTruths}
use Rattle.gate_sets.proofs.graphs.first_row.Given as goal

abbrev pub invariant-loop-place : goal.invariant-loop-place
invariant-loop-place l =
    AreTruths l.gates l.place (λ (inputs : ℕ → Bool) (o : ℕ). o == l.object || at l.gates l.list inputs o) l.places.items

use Rattle.std.proofs.Common.{ℕ, Bool, ◌||◌}
use Rattle.std.specs.Prelude.{◌==◌}
use Rattle.gate_sets.specs.Lists.{in_row, AreRows}
use Rattle.gate_sets.proofs.graphs.first_steps.Given as goal

abbrev pub invariant-loop-place : goal.invariant-loop-place
invariant-loop-place l =
    AreRows l.gates l.place l.count (λ (inputs : ℕ → Bool) (p o : ℕ). o == p || in_row l.count l.gates l.graph inputs p o) l.all.items

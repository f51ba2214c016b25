use Rattle.std.proofs.Common.{ℕ, Bool}
use Rattle.std.specs.Prelude.{◌==◌}
use Rattle.gate_sets.specs.Lists.{AreTruths}
use Rattle.rel_gates.proofs.members.place_alone.Given as goal

abbrev pub invariant-loop-number : goal.invariant-loop-number
invariant-loop-number l = AreTruths l.gates l.number (λ (inputs : ℕ → Bool) (i : ℕ). i == l.place) l.list.items

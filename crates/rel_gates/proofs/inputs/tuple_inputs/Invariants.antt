use Rattle.std.proofs.Common.{ℕ, ◌+◌}
use Rattle.std.specs.Prelude.{◌==◌}
use Rattle.tuple_sets.specs.Words.{has}
use Rattle.rel_gates.specs.Naming.{AreInputs}
use Rattle.rel_gates.proofs.inputs.tuple_inputs.Given as goal

abbrev pub invariant-loop-place : goal.invariant-loop-place
invariant-loop-place l = AreInputs l.fn.gates l.gates l.place (λ (j : ℕ). has l.upper (l.first + j) == 1) l.list.items

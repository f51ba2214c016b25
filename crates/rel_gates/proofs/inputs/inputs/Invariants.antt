use Rattle.std.proofs.Common.{ℕ, true}
use Rattle.rel_gates.specs.Naming.{AreInputs}
use Rattle.rel_gates.proofs.inputs.inputs.Given as goal

abbrev pub invariant-loop-place : goal.invariant-loop-place
invariant-loop-place l = AreInputs l.fn.gates l.gates l._place (λ (j : ℕ). true) l.list.items

use Rattle.std.proofs.Common.{ℕ, Bool, take}
use Rattle.gate_core.specs.Circuit.{value, Keeps}
use Rattle.gate_arith.specs.Operations.{IsTruth}
use Rattle.rel_gates.specs.Limits.{all_fit}
use Rattle.rel_gates.proofs.limits.limits.Given as goal

abbrev pub invariant-loop-place : goal.invariant-loop-place
invariant-loop-place l = record {
  keeps : Keeps l.fn.gates l.gates;
  every : IsTruth l.gates (λ (inputs : ℕ → Bool). all_fit l.problem (value inputs l.fn.gates) (take l.place l.relations)) l.every;
}

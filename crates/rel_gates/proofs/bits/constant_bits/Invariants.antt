use Rattle.std.proofs.Common.{◌≡◌, ℕ, ◌+◌, Bool}
use Rattle.gate_sets.specs.Lists.{AreTruths}
use Rattle.rel_gates.specs.Constants.{digit}
use Rattle.rel_gates.proofs.bits.constant_bits.Given as goal

abbrev pub invariant-loop-place : goal.invariant-loop-place
invariant-loop-place l = record {
  bits : AreTruths l.gates l._place (λ (inputs : ℕ → Bool) (i : ℕ). digit l.number i) l.list.items;
  rest : (i : ℕ) → digit l.rest i ≡ digit l.number (l._place + i);
}

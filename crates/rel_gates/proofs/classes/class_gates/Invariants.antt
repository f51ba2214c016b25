use Rattle.std.proofs.Common.{ℕ, Bool}
use Rattle.gate_core.specs.Circuit.{value, Keeps}
use Rattle.gate_sets.specs.Lists.{AreTruths}
use Rattle.rel_gates.specs.Limits.{is_class_at}
use Rattle.rel_gates.proofs.classes.class_gates.Given as goal

abbrev pub invariant-loop-object : goal.invariant-loop-object
invariant-loop-object l = record {
  keeps : Keeps l.fn.gates l.gates;
  places : AreTruths l.gates l.object (λ (inputs : ℕ → Bool) (o : ℕ). is_class_at l.problem (value inputs l.fn.gates) l.rows l.class o) l.list.items;
}

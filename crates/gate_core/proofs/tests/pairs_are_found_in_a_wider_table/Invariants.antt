use Rattle.gate_core.specs.Circuit.{IsOf}
use Rattle.gate_core.proofs.tests.pairs_are_found_in_a_wider_table.Given as goal

abbrev pub invariant-loop : goal.invariant-loop
invariant-loop g l = record {
  a : IsOf l.gates l.a;
  b : IsOf l.gates l.b;
  all : IsOf l.gates l.all;
}

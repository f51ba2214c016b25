use Rattle.gate_core.specs.Circuit.{Keeps}
use Rattle.rel_gates.specs.Rows.{NamesTuples}
use Rattle.rel_gates.proofs.tuples.name_tuples.Given as goal

abbrev pub invariant-loop-place : goal.invariant-loop-place
invariant-loop-place l = record {
  keeps : Keeps l.fn.gates l.gates;
  first : NamesTuples l.fn.gates l.gates l.upper l.uses l.place l.relations l.all.items;
}

use Rattle.gate_core.specs.Circuit.{Keeps}
use Rattle.rel_gates.specs.Naming.{NamesFirst}
use Rattle.rel_gates.proofs.naming.name_all.Given as goal

abbrev pub invariant-loop-place : goal.invariant-loop-place
invariant-loop-place l = record {
  keeps : Keeps l.fn.gates l.gates;
  first : NamesFirst l.fn.gates l.gates l.fn.relations l.relations l.uses l.place;
}

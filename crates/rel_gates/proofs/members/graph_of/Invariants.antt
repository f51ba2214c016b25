use Rattle.std.proofs.Common.{take}
use Rattle.gate_core.specs.Circuit.{Keeps}
use Rattle.rel_gates.specs.Meant.{AreEdges}
use Rattle.rel_gates.proofs.members.graph_of.Given as goal

abbrev pub invariant-loop-place : goal.invariant-loop-place
invariant-loop-place l = record {
  keeps : Keeps l.fn.gates l.gates;
  edges : AreEdges l.problem l.relations l.gates (take l.place l.list) l.graph.items;
}

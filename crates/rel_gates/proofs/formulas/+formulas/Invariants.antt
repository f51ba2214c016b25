use Rattle.std.proofs.Common.{◌+◌, ◌*◌, take}
use Rattle.gate_core.specs.Circuit.{Keeps}
use Rattle.rel_gates.specs.Parts.{AreTruthsOf}
use Rattle.rel_gates.proofs.FormulaParts.{size, sizes}
use Rattle.rel_gates.proofs.formulas.+formulas.Given as goal

abbrev pub decreases-formula_gate : goal.decreases-formula_gate
decreases-formula_gate l = 2 * size l.formula.now

abbrev pub decreases-part_gates : goal.decreases-part_gates
decreases-part_gates l = 2 * sizes l.parts.now + 1

abbrev pub invariant-part_gates-loop-part : goal.invariant-part_gates-loop-part
invariant-part_gates-loop-part l = record {
  keeps : Keeps l.fn.gates l.gates;
  parts : AreTruthsOf l.problem l.relations l.gates (take l.part-index l.parts) l.list.items;
}

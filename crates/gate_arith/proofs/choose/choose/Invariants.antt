use Rattle.gate_arith.specs.Choice.{IsChoice}
use Rattle.gate_arith.proofs.choose.choose.Given as goal

abbrev pub invariant-loop-place : goal.invariant-loop-place
invariant-loop-place l = IsChoice l.fn.gates l.gates l.condition l.a l.b l.place l.chosen.items

use Rattle.gate_arith.specs.Ripple.{IsPartial}
use Rattle.gate_arith.proofs.adder.ripple.Given as goal

abbrev pub invariant-loop-place : goal.invariant-loop-place
invariant-loop-place l = IsPartial l.fn.gates l.gates l.a l.b l.fn.first l.place l.sum.items l.carry

use Rattle.gate_arith.specs.Counting.{IsCounted}
use Rattle.gate_arith.proofs.counter.count.Given as goal

abbrev pub invariant-loop-place : goal.invariant-loop-place
invariant-loop-place l = IsCounted l.fn.gates l.gates l.bits l.places l.place l.low.items l.over

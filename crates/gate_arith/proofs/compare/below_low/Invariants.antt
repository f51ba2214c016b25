use Rattle.std.specs.Prelude.{nat_lt}
use Rattle.gate_arith.specs.Comparison.{IsTested}
use Rattle.gate_arith.proofs.compare.below_low.Given as goal

abbrev pub invariant-loop-place : goal.invariant-loop-place
invariant-loop-place l = IsTested (λ n m. nat_lt n m) l.fn.gates l.gates l.a l.b l.place l.below

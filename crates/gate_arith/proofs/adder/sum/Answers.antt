-- The carry is the constant false.
use Rattle.std.proofs.Common.{length}
use Rattle.gate_arith.proofs.Differences.{sum_of_none}
use Rattle.gate_arith.proofs.adder.sum.Goals as goal

pub returns-clause-sum : goal.returns-clause-sum
returns-clause-sum c =
    sum_of_none c.args.gates.now c.add.new.gates c.args.a.now c.args.b.now c.constant-none.result (length c.args.a.now) c.in_ok-number.number.0.items c.in_ok-number.number.1
    c.constant-none.ensures.value c.in_ok-number.ensures.sum

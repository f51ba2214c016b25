-- Node 0 is the constant false.
use Rattle.std.proofs.Common.{◌≡◌, arith}
use Rattle.std.specs.Prelude.{if◌then◌else◌}
use Rattle.gate_core.proofs.Conjunctions.{value_constant}
use Rattle.gate_core.proofs.circuit.Gate.constant.Goals as goal

pub returns-clause-value : goal.returns-clause-value
returns-clause-value c =
    let gate : c.from.result ≡ (if c.args.truth then 1 else 0) = grind (arith, c.from.ensures) in
    λ inputs nodes circuit. value_constant inputs nodes c.args.truth c.from.result circuit gate

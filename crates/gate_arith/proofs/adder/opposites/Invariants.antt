use Rattle.std.proofs.Common.{◌≡◌, map, take}
use Rattle.gate_core.specs.Circuit.{negation}
use Rattle.gate_arith.proofs.adder.opposites.Given as goal

abbrev pub invariant-loop-gate : goal.invariant-loop-gate
invariant-loop-gate l = l.opposites.items ≡ map negation (take l.gate-index l.gates)

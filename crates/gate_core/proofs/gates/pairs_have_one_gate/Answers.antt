-- No conjunction stands twice, and it stands with its sides in order.
use Rattle.gate_core.proofs.Conjunctions.{pairs_one}
use Rattle.gate_core.proofs.gates.pairs_have_one_gate.Goals as goal

pub returns : goal.returns
returns c = pairs_one

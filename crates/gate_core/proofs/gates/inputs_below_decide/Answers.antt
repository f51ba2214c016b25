-- The nodes up to the gate's have one list of values.
use Rattle.gate_core.proofs.Values.{value_decided}
use Rattle.gate_core.proofs.gates.inputs_below_decide.Goals as goal

pub returns : goal.returns
returns c = value_decided

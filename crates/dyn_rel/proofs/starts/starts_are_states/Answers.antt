use Rattle.dyn_rel.proofs.FirstStates.{starts_are_states}
use Rattle.dyn_rel.proofs.starts.starts_are_states.Goals as goal

pub returns : goal.returns
returns c = starts_are_states

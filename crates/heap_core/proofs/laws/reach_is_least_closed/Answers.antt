use Rattle.heap_core.proofs.Reach.{reach_is_least_closed}
use Rattle.heap_core.proofs.laws.reach_is_least_closed.Goals as goal

pub returns : goal.returns
returns c = reach_is_least_closed

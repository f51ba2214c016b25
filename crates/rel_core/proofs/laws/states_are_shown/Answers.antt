use Rattle.rel_core.proofs.StartsShown.{states_are_shown}
use Rattle.rel_core.proofs.laws.states_are_shown.Goals as goal

pub returns : goal.returns
returns c = states_are_shown

use Rattle.rel_core.proofs.StartsShown.{starts_are_shown}
use Rattle.rel_core.proofs.laws.starts_are_shown.Goals as goal

pub returns : goal.returns
returns c = starts_are_shown

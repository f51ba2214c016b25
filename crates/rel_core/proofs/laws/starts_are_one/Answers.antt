use Rattle.rel_core.proofs.OneStart.{starts_are_one}
use Rattle.rel_core.proofs.laws.starts_are_one.Goals as goal

pub returns : goal.returns
returns c = starts_are_one

use Rattle.heap_core.proofs.KindedStarts.{starts_are_answered}
use Rattle.heap_core.proofs.laws.starts_are_answered.Goals as goal

pub returns : goal.returns
returns c = starts_are_answered

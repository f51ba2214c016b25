use Rattle.heap_core.proofs.Kinded.{kinds_hold}
use Rattle.heap_core.proofs.laws.kinds_hold.Goals as goal

pub returns : goal.returns
returns c = kinds_hold

use Rattle.rel_core.proofs.Read.{heaps_are_read}
use Rattle.rel_core.proofs.laws.heaps_are_read.Goals as goal

pub returns : goal.returns
returns c = heaps_are_read

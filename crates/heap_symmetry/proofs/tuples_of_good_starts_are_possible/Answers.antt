use Rattle.heap_symmetry.proofs.Canonically.{possible}
use Rattle.heap_symmetry.proofs.tuples_of_good_starts_are_possible.Goals as goal

pub returns : goal.returns
returns c = possible

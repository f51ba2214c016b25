use Rattle.heap_symmetry.proofs.Canonically.{decide}
use Rattle.heap_symmetry.proofs.canonical_starts_decide.Goals as goal

pub returns : goal.returns
returns c = decide

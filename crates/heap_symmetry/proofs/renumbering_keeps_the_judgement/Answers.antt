use Rattle.heap_symmetry.proofs.Canonically.{keeps}
use Rattle.heap_symmetry.proofs.renumbering_keeps_the_judgement.Goals as goal

pub returns : goal.returns
returns c = keeps

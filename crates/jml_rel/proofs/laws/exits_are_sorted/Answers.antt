use Rattle.jml_rel.proofs.Sorting.{exits_are_sorted}
use Rattle.jml_rel.proofs.laws.exits_are_sorted.Goals as goal

pub returns : goal.returns
returns c = exits_are_sorted

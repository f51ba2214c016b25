use Rattle.jml_rel.proofs.Sorting.{entries_are_sorted}
use Rattle.jml_rel.proofs.laws.entries_are_sorted.Goals as goal

pub returns : goal.returns
returns c = entries_are_sorted

use Rattle.jml_rel.proofs.Starting.{entries_are_shown}
use Rattle.jml_rel.proofs.laws.entries_are_shown.Goals as goal

pub returns : goal.returns
returns c = entries_are_shown

use Rattle.jml_rel.proofs.Starting.{exits_are_shown}
use Rattle.jml_rel.proofs.laws.exits_are_shown.Goals as goal

pub returns : goal.returns
returns c = exits_are_shown

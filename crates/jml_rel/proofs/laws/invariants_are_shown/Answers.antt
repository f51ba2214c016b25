use Rattle.jml_rel.proofs.Environments.{invariants_are_shown}
use Rattle.jml_rel.proofs.laws.invariants_are_shown.Goals as goal

pub returns : goal.returns
returns c = invariants_are_shown

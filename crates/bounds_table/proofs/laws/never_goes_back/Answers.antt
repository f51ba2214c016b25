use Rattle.bounds_table.proofs.Runs.{never_goes_back}
use Rattle.bounds_table.proofs.laws.never_goes_back.Goals as goal

pub returns : goal.returns
returns c = never_goes_back

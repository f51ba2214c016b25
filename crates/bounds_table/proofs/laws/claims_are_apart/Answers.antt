use Rattle.bounds_table.proofs.Claimants.{claims_are_apart}
use Rattle.bounds_table.proofs.laws.claims_are_apart.Goals as goal

pub returns : goal.returns
returns c = claims_are_apart

use Rattle.bounds_table.proofs.Runs.{stays_safe}
use Rattle.bounds_table.proofs.laws.stays_safe.Goals as goal

pub returns : goal.returns
returns c = stays_safe

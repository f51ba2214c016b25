use Rattle.bounds_table.proofs.Runs.{claimed_once}
use Rattle.bounds_table.proofs.laws.claimed_once.Goals as goal

pub returns : goal.returns
returns c = claimed_once

use Rattle.dyn_core.proofs.Bounds.{runs_by_cases}
use Rattle.dyn_core.proofs.laws.runs_by_cases.Goals as goal

pub returns : goal.returns
returns c = runs_by_cases

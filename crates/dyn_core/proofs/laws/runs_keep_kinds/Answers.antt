use Rattle.dyn_core.proofs.Kept.{runs_keep_kinds}
use Rattle.dyn_core.proofs.laws.runs_keep_kinds.Goals as goal

pub returns : goal.returns
returns c = runs_keep_kinds

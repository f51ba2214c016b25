use Rattle.dyn_core.proofs.Alike.{starless_runs_alike}
use Rattle.dyn_core.proofs.laws.starless_runs_alike.Goals as goal

pub returns : goal.returns
returns c = starless_runs_alike

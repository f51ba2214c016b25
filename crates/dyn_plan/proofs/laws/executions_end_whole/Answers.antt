use Rattle.dyn_plan.proofs.EndRuns.{executions_end_whole}
use Rattle.dyn_plan.proofs.laws.executions_end_whole.Goals as goal

pub returns : goal.returns
returns c = executions_end_whole

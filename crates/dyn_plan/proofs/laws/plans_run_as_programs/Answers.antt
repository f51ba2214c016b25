use Rattle.dyn_plan.proofs.Bridge.{plans_run_as_programs}
use Rattle.dyn_plan.proofs.laws.plans_run_as_programs.Goals as goal

pub returns : goal.returns
returns c = plans_run_as_programs

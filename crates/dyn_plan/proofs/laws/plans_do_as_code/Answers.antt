use Rattle.dyn_plan.proofs.WholeShown.{plans_do_as_code}
use Rattle.dyn_plan.proofs.laws.plans_do_as_code.Goals as goal

pub returns : goal.returns
returns c = plans_do_as_code

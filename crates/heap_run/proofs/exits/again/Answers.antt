use Rattle.heap_run.proofs.WaitSteps.{again_at}
use Rattle.heap_run.proofs.exits.again.Goals as goal

pub returns-clause-step : goal.returns-clause-step
returns-clause-step c p = again_at p c.args.machine.now c.evaluate_for.new.machine c.in_ok-task.task c.args.turns c.args.test c.args.body c.in_ok-task.ensures.step

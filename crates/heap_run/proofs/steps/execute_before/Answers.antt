use Rattle.heap_run.proofs.Keeping.{executes}
use Rattle.heap_run.proofs.steps.execute_before.Goals as goal

pub returns-clause-step : goal.returns-clause-step
returns-clause-step c = executes c.args.machine.now c.args.stmt c.args.wait c.push.new.self c.in_ok-push.ensures.ok

use Rattle.heap_run.proofs.Keeping.{evaluates}
use Rattle.heap_run.proofs.steps.evaluate_for.Goals as goal

pub returns-clause-step : goal.returns-clause-step
returns-clause-step c = evaluates c.args.machine.now c.args.expr c.args.wait c.push.new.self c.in_ok-push.ensures.ok

use Rattle.heap_run.proofs.CallSteps.{argument_at, first_and_rest}
use Rattle.heap_run.proofs.calling.call_on.Goals as goal

pub returns-in_ok-task-in-len1-up-clause-step : goal.returns-in_ok-task-in-len1-up-clause-step
returns-in_ok-task-in-len1-up-clause-step c =
    argument_at c.args.problem.now c.args.machine.now c.evaluate_for.new.machine c.in_ok-task-in-len1-up.task c.args.method c.args.target c.args.args c.args.rest.now c.first-item.result _ c.args.wanted (first_and_rest c.args.rest.now c.first-item.result c.in-len1-up.len_at_least c.first-item.is)
    (c.in_ok-task-in-len1-up.ensures.step c.args.problem.now)

use Rattle.heap_run.proofs.WaitSteps.{popped_value, empty_value}
use Rattle.heap_run.proofs.runs.give.Goals as goal

pub returns-in_ok-task-in-Some-clause-step : goal.returns-in_ok-task-in-Some-clause-step
returns-in_ok-task-in-Some-clause-step c =
    popped_value c.args.problem.now c.args.machine.now c.resume.new.machine c.in_ok-task-in-Some.task c.pop.new.self c.in-Some.wait c.args.value c.in-Some.ensures c.in_ok-task-in-Some.ensures.step

pub returns-in-None-clause-step : goal.returns-in-None-clause-step
returns-in-None-clause-step c = let empty = c.in-None.ensures in empty_value c.args.problem.now c.args.machine.now c.pop.new.self c.args.value empty.0

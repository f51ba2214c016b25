use Rattle.heap_run.proofs.WaitSteps.{popped_end, empty_end}
use Rattle.heap_run.proofs.runs.go.Goals as goal

pub returns-in_ok-task-in-Some-clause-step : goal.returns-in_ok-task-in-Some-clause-step
returns-in_ok-task-in-Some-clause-step c =
    popped_end c.args.problem.now c.args.machine.now c.go_on.new.machine c.in_ok-task-in-Some.task c.pop.new.self c.in-Some.wait c.in-Some.ensures (c.in_ok-task-in-Some.ensures.step c.args.problem.now)

pub returns-in-None-clause-step : goal.returns-in-None-clause-step
returns-in-None-clause-step c =
    let empty = c.in-None.ensures in
    rw c.outcome_of.ensures (empty_end c.args.problem.now c.args.machine.now c.pop.new.self c.last_value.result c.last_value.ensures empty.0)

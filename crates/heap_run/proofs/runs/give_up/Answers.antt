use Rattle.heap_run.proofs.WaitSteps.{popped_return, empty_return}
use Rattle.heap_run.proofs.runs.give_up.Goals as goal

pub returns-in-Some-clause-step : goal.returns-in-Some-clause-step
returns-in-Some-clause-step c =
    popped_return c.args.problem.now c.args.machine.now c.unwind.new.machine c.unwind.result c.pop.new.self c.in-Some.wait c.args.value c.in-Some.ensures (c.unwind.ensures.step c.args.problem.now)

pub returns-in-None-clause-step : goal.returns-in-None-clause-step
returns-in-None-clause-step c =
    let empty = c.in-None.ensures in rw c.outcome_of.ensures (empty_return c.args.problem.now c.args.machine.now c.pop.new.self c.args.value empty.0)

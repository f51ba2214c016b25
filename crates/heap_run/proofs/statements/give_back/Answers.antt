use Rattle.heap_run.proofs.StmtSteps.{given_at}
use Rattle.heap_run.proofs.statements.give_back.Goals as goal

pub returns-in_ok-task-in-Some-clause-step : goal.returns-in_ok-task-in-Some-clause-step
returns-in_ok-task-in-Some-clause-step c p = rw c.in-Some.is (given_at p c.args.machine.now c.evaluate_for.new.machine c.in_ok-task-in-Some.task c.in-Some.a (c.in_ok-task-in-Some.ensures.step p))

use Rattle.std.proofs.Common.{sym, arith}
use Rattle.heap_run.proofs.CallSteps.{started_at}
use Rattle.heap_run.proofs.calling.start.Goals as goal

pub returns-in_ok-task-in-Some-clause-step : goal.returns-in_ok-task-in-Some-clause-step
returns-in_ok-task-in-Some-clause-step c =
    started_at c.args.problem.now c.args.machine.now c.begin.new.machine c.in_ok-task-in-Some.task c.args.method c.args.this c.args.args c.args.wanted c.in-Some.d.now (omega arith) (sym c.in-Some.ensures) c.in_ok-task-in-Some.ensures.step

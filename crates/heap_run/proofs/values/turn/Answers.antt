use Rattle.std.proofs.Common.{refl, arith}
use Rattle.heap_run.specs.Cost.{cost_of_turns}
use Rattle.heap_run.proofs.StmtSteps.{turn_true}
use Rattle.heap_run.proofs.values.turn.Goals as goal

pub returns-in_ok-task-in-Flag-true-clause-step : goal.returns-in_ok-task-in-Flag-true-clause-step
returns-in_ok-task-in-Flag-true-clause-step c p =
    rw (c.in-Flag-true.is, c.in-Flag-true.field-0-test)
    (turn_true c.args.machine.now c.execute_before.new.machine c.in_ok-task-in-Flag-true.task c.args.turns c.args.test c.args.body p (omega arith) (c.in_ok-task-in-Flag-true.ensures.step p))

pub returns-in-Flag-false-clause-step : goal.returns-in-Flag-false-clause-step
unfolding cost_of_turns
returns-in-Flag-false-clause-step c p = rw (c.in-Flag-false.is, c.in-Flag-false.field-0-test) (record { same = refl; fewer = omega arith })

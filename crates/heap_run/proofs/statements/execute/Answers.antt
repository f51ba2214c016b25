use Rattle.std.proofs.Common.{◌≡◌, ap, sym, ◌∙◌}
use Rattle.taco_unit.specs.declared.stmt.Stmt.TheVariants as s
use Rattle.heap_run.proofs.StmtSteps.{executed_as, block_at, step_local_at, run_at, set_at, write_at, step_field_at, if_at, return_at, while_at}
use Rattle.heap_run.proofs.statements.execute.Goals as goal

pub returns-in_ok-task-in-Block-clause-step : goal.returns-in_ok-task-in-Block-clause-step
returns-in_ok-task-in-Block-clause-step c =
    let is : c.args.stmt.now ≡ s.Block c.as_slice.result.now = c.in-Block.is ∙ ap s.Block (sym c.as_slice.ensures) in
    executed_as c.args.problem.now c.args.machine.now c.execute_all.new.machine c.in_ok-task-in-Block.task _ _ is
    (block_at c.args.problem.now c.args.machine.now c.execute_all.new.machine c.in_ok-task-in-Block.task c.as_slice.result.now (c.in_ok-task-in-Block.ensures.step c.args.problem.now))

pub returns-in_ok-task-in-Set-clause-step : goal.returns-in_ok-task-in-Set-clause-step
returns-in_ok-task-in-Set-clause-step c =
    executed_as c.args.problem.now c.args.machine.now c.evaluate_for.new.machine c.in_ok-task-in-Set.task _ _ c.in-Set.is
    (set_at c.args.problem.now c.args.machine.now c.evaluate_for.new.machine c.in_ok-task-in-Set.task c.in-Set.i c.in-Set.a (c.in_ok-task-in-Set.ensures.step c.args.problem.now))

pub returns-in_ok-task-in-Write-clause-step : goal.returns-in_ok-task-in-Write-clause-step
returns-in_ok-task-in-Write-clause-step c =
    executed_as c.args.problem.now c.args.machine.now c.evaluate_for-in-Write.new.machine c.in_ok-task-in-Write.task _ _ c.in-Write.is
    (write_at c.args.problem.now c.args.machine.now c.evaluate_for-in-Write.new.machine c.in_ok-task-in-Write.task c.in-Write.a c.in-Write.f c.in-Write.b (c.in_ok-task-in-Write.ensures.step c.args.problem.now))

pub returns-in-StepLocal-clause-step : goal.returns-in-StepLocal-clause-step
returns-in-StepLocal-clause-step c =
    executed_as c.args.problem.now c.args.machine.now c.step_local.new.machine c.step_local.result _ _ c.in-StepLocal.is
    (step_local_at c.args.problem.now c.args.machine.now c.step_local.new.machine c.step_local.result c.in-StepLocal.i c.in-StepLocal.up c.step_local.ensures.step)

pub returns-in_ok-task-in-StepField-clause-step : goal.returns-in_ok-task-in-StepField-clause-step
returns-in_ok-task-in-StepField-clause-step c =
    executed_as c.args.problem.now c.args.machine.now c.evaluate_for-in-StepField.new.machine c.in_ok-task-in-StepField.task _ _ c.in-StepField.is
    (step_field_at c.args.problem.now c.args.machine.now c.evaluate_for-in-StepField.new.machine c.in_ok-task-in-StepField.task c.in-StepField.a c.in-StepField.f c.in-StepField.up (c.in_ok-task-in-StepField.ensures.step c.args.problem.now))

pub returns-in_ok-task-in-If-clause-step : goal.returns-in_ok-task-in-If-clause-step
returns-in_ok-task-in-If-clause-step c =
    let is : c.args.stmt.now ≡ s.If c.in-If.a c.get.result.now c.get-in-If.result.now =
    c.in-If.is ∙ ap (λ z. s.If c.in-If.a z c.in-If.t) (sym c.get.ensures) ∙ ap (λ z. s.If c.in-If.a c.get.result.now z) (sym c.get-in-If.ensures)
    in
    executed_as c.args.problem.now c.args.machine.now c.evaluate_for-in-If.new.machine c.in_ok-task-in-If.task _ _ is
    (if_at c.args.problem.now c.args.machine.now c.evaluate_for-in-If.new.machine c.in_ok-task-in-If.task c.in-If.a c.get.result.now c.get-in-If.result.now (c.in_ok-task-in-If.ensures.step c.args.problem.now))

pub returns-in_ok-task-in-While-clause-step : goal.returns-in_ok-task-in-While-clause-step
returns-in_ok-task-in-While-clause-step c =
    let is : c.args.stmt.now ≡ s.While c.in-While.a c.get-in-While.result.now = c.in-While.is ∙ ap (λ z. s.While c.in-While.a z) (sym c.get-in-While.ensures) in
    executed_as c.args.problem.now c.args.machine.now c.evaluate_for-in-While.new.machine c.in_ok-task-in-While.task _ _ is
    (while_at c.args.problem.now c.args.machine.now c.evaluate_for-in-While.new.machine c.in_ok-task-in-While.task c.turns_of-turns.result c.in-While.a c.get-in-While.result.now c.turns_of-turns.ensures (c.in_ok-task-in-While.ensures.step c.args.problem.now))

pub returns-in_ok-task-in-Return-clause-step : goal.returns-in_ok-task-in-Return-clause-step
returns-in_ok-task-in-Return-clause-step c =
    executed_as c.args.problem.now c.args.machine.now c.give_back.new.machine c.in_ok-task-in-Return.task _ _ c.in-Return.is
    (return_at c.args.problem.now c.args.machine.now c.give_back.new.machine c.in_ok-task-in-Return.task c.in-Return.value (c.in_ok-task-in-Return.ensures.step c.args.problem.now))

pub returns-in_ok-task-in-Run-clause-step : goal.returns-in_ok-task-in-Run-clause-step
returns-in_ok-task-in-Run-clause-step c =
    executed_as c.args.problem.now c.args.machine.now c.call.new.machine c.in_ok-task-in-Run.task _ _ c.in-Run.is
    (run_at c.args.problem.now c.args.machine.now c.call.new.machine c.in_ok-task-in-Run.task c.in-Run.c c.in_ok-task-in-Run.ensures.step)

use Rattle.std.proofs.Common.{List, [], Some, None, ap, sym, subst, ◌∙◌}
use Rattle.taco_unit.specs.declared.expr.Expr.{Expr}
use Rattle.heap_core.specs.declared.value.Value.{Value}
use Rattle.heap_run.specs.Machines.{Argued}
use Rattle.heap_run.proofs.CallSteps.{target_at, static_at}
use Rattle.heap_run.proofs.calling.call.Goals as goal

pub returns-in_ok-task-in-Some-clause-step : goal.returns-in_ok-task-in-Some-clause-step
returns-in_ok-task-in-Some-clause-step c =
    target_at c.args.problem.now c.args.machine.now c.evaluate_for.new.machine c.in_ok-task-in-Some.task c.args.call.now c.get.result.now c.args.wanted (c.in-Some.is ∙ ap Some (sym c.get.ensures))
    (rw (sym c.as_slice-rest.ensures) (c.in_ok-task-in-Some.ensures.step c.args.problem.now))

pub returns-in_ok-task-in-None-clause-step : goal.returns-in_ok-task-in-None-clause-step
returns-in_ok-task-in-None-clause-step c =
    let P : List Value → Type 0 = λ z. Argued c.args.problem.now c.args.machine.now c.args.call.now.method None z c.as_slice-rest.result.now c.args.wanted c.call_on.new.machine c.in_ok-task-in-None.task in
    let Q : List Expr → Type 0 = λ z. Argued c.args.problem.now c.args.machine.now c.args.call.now.method None [] z c.args.wanted c.call_on.new.machine c.in_ok-task-in-None.task in
    static_at c.args.problem.now c.args.machine.now c.call_on.new.machine c.in_ok-task-in-None.task c.args.call.now c.args.wanted c.in-None.is
    (subst Q c.as_slice-rest.ensures (subst P c.new.ensures c.in_ok-task-in-None.ensures.step))

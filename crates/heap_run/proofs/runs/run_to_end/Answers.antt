use Rattle.std.proofs.Common.{ℕ, ◌<◌, subst, ◌∙◌}
use Rattle.heap_run.specs.Machines.{cost}
use Rattle.heap_run.proofs.WaitSteps.{most_cost}
use Rattle.heap_run.proofs.runs.run_to_end.Goals as goal

pub loop-task-preserved : goal.loop-task-preserved
loop-task-preserved c =
    let next = c.in_ok-task.ensures.step in
    (next.same ∙ c.loop-task.invariant.0, λ few. c.step.ensures.within (c.loop-task.invariant.1 few))

pub loop-task-smaller : goal.loop-task-smaller
loop-task-smaller c =
    let next = c.in_ok-task.ensures.step in
    let P : ℕ → Type 0 = λ z. cost c.args.problem.now c.step.new.machine c.in_ok-task.task < z in
    subst P (most_cost c.args.problem.now c.loop-task.machine c.loop-task.task c.in_default.not-End) next.fewer

use Rattle.std.proofs.Common.{◌≡◌}
use Rattle.heap_run.specs.Machines.{comes_to, cost}
use Rattle.heap_run.specs.Runs.{StaysWithin}
use Rattle.heap_run.proofs.runs.run_to_end.Given as goal

abbrev pub invariant-loop-task : goal.invariant-loop-task
invariant-loop-task l =
    (comes_to l.problem l.machine l.task ≡ comes_to l.problem l.initial.machine l.initial.task) × StaysWithin l.problem l.initial.machine.heap.items l.machine.heap.items

abbrev pub decreases-loop-task : goal.decreases-loop-task
decreases-loop-task l = cost l.problem l.machine l.task

use Rattle.std.proofs.Common.{◌≡◌, ◌++◌, ◌≤◌, ◌-◌, true, length}
use Rattle.std.specs.List.{list_all}
use Rattle.taco_report.specs.States.{is_listed, object_lines}
use Rattle.taco_report.proofs.state_reader.object_lines.Given as goal

-- the lines read are right, and what is left stands behind them
abbrev pub invariant-loop-alloc : goal.invariant-loop-alloc
invariant-loop-alloc l =
    (list_all (is_listed l.problem.unit l.count) l.objects ≡ true) × (l.text ≡ object_lines l.problem l.objects ++ l.rest) × (length l.objects ≤ l.count)

abbrev pub decreases-loop-alloc : goal.decreases-loop-alloc
decreases-loop-alloc l = l.count - length l.objects

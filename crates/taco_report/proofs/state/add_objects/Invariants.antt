use Rattle.std.proofs.Common.{◌≡◌, ◌++◌, drop, flat_map}
use Rattle.std.specs.List.{enumerate_from}
use Rattle.taco_report.specs.Texts.{object_line}
use Rattle.taco_report.proofs.state.add_objects.Given as goal

-- the lines so far, and then those of what is left, are those of all
abbrev pub invariant-loop-i : goal.invariant-loop-i
invariant-loop-i l =
    l.out.items ++ flat_map (object_line l.problem) (enumerate_from l.i (drop l.i l.objects)) ≡ l.initial.out.items ++ flat_map (object_line l.problem) (enumerate_from 0 l.objects)

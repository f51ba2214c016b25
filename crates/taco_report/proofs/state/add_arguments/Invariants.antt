use Rattle.std.proofs.Common.{◌≡◌, ◌++◌, drop, flat_map}
use Rattle.std.specs.Prelude.{zip}
use Rattle.taco_report.specs.Texts.{argument_line}
use Rattle.taco_report.proofs.state.add_arguments.Given as goal

-- the lines so far, and then those of what is left, are those of all
abbrev pub invariant-loop-i : goal.invariant-loop-i
invariant-loop-i l =
    l.out.items ++ flat_map argument_line (zip (drop l.i l.params) (drop l.i l.values)) ≡ l.initial.out.items ++ flat_map argument_line (zip l.params l.values)

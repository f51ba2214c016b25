use Rattle.std.proofs.Common.{◌≡◌, ◌+◌, ◌++◌, drop, flat_map}
use Rattle.std.specs.List.{enumerate_from}
use Rattle.taco_report.specs.FormulaTexts.{literal_word}
use Rattle.taco_report.proofs.formula.add_literals.Given as goal

-- the literals so far, and then those of what is left, are those of all
abbrev pub invariant-loop-i : goal.invariant-loop-i
invariant-loop-i l =
    l.out.items ++ flat_map literal_word (enumerate_from (l.i + 1) (drop l.i l.values)) ≡ l.initial.out.items ++ flat_map literal_word (enumerate_from 1 l.values)

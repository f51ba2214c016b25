use Rattle.std.proofs.Common.{◌≡◌, drop}
use Rattle.declared_names.specs.Faults.{soonest, earlier}
use Rattle.typed_statements.specs.Modifiers.{no_marks, repeated_from}
use Rattle.typed_statements.proofs.modifiers.repeated.Given as goal

-- what is left still has its faults
abbrev pub invariant-loop-modifier : goal.invariant-loop-modifier
invariant-loop-modifier l = earlier l.found (soonest (repeated_from l.marks (drop l.modifier-index l.mods))) ≡ soonest (repeated_from no_marks l.mods)

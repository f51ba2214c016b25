use Rattle.std.proofs.Common.{◌≡◌, drop}
use Rattle.typed_statements.specs.Modifiers.{marks_from, marks_of}
use Rattle.typed_statements.proofs.modifiers.first_places.Given as goal

abbrev pub invariant-loop-modifier : goal.invariant-loop-modifier
invariant-loop-modifier l = marks_from l.marks (drop l.modifier-index l.mods) ≡ marks_of l.mods

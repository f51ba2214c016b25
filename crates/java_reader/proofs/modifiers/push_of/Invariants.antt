use Rattle.std.proofs.Common.{◌≡◌, ◌==◌, ◌++◌, filter, take}
use Rattle.java_tree.specs.Statements.{rank}
use Rattle.java_reader.proofs.modifiers.push_of.Given as goal

abbrev pub invariant-loop-modifier : goal.invariant-loop-modifier
invariant-loop-modifier l = l.ordered.items ≡ l.initial.ordered.items ++ filter (λ m. rank m.word == rank l.word) (take l.modifier-index l.modifiers)

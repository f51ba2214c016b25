use Rattle.std.proofs.Common.{◌≡◌, ◌++◌, drop}
use Rattle.java_tree.specs.Print.{modifiers_written}
use Rattle.java_tree.proofs.print_statements.push_modifiers.Given as goal

-- what is left is still to be written
abbrev pub invariant-loop-modifier : goal.invariant-loop-modifier
invariant-loop-modifier l = l.words.items ++ modifiers_written (drop l.modifier-index l.mods) ≡ l.initial.words.items ++ modifiers_written l.mods

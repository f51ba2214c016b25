use Rattle.std.proofs.Common.{◌≡◌, ◌++◌, true, drop}
use Rattle.java_lex.specs.declared.words.TheConstants.{PLUS}
use Rattle.java_tree.specs.Print.{behind_each}
use Rattle.java_tree.proofs.print_clauses.push_names.Given as goal

-- what is left is still to be written
abbrev pub invariant-loop-field : goal.invariant-loop-field
invariant-loop-field l = l.words.items ++ behind_each true PLUS.now (drop l.field-index l.more) ≡ l.initial.words.items ++ behind_each true PLUS.now l.more

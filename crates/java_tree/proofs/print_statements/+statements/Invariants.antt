use Rattle.std.proofs.Common.{◌≡◌, ◌++◌, drop}
use Rattle.java_tree.specs.Seen.{stmt_trees}
use Rattle.java_tree.specs.Print.{stmts_written}
use Rattle.java_tree.proofs.print_statements.+statements.Given as goal

-- what is left is still to be written
abbrev pub invariant-push_block-loop-stmt : goal.invariant-push_block-loop-stmt
invariant-push_block-loop-stmt l = l.words.items ++ stmts_written (stmt_trees (drop l.stmt-index l.stmts)) ≡ l.initial.words.items ++ stmts_written (stmt_trees l.stmts)

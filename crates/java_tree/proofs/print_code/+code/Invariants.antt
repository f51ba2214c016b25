use Rattle.std.proofs.Common.{◌≡◌, ◌++◌, drop}
use Rattle.java_tree.specs.Seen.{java_trees}
use Rattle.java_tree.specs.Print.{more_args_written}
use Rattle.java_tree.proofs.print_code.+code.Given as goal

-- what is left is still to be written
abbrev pub invariant-push_args-loop-arg : goal.invariant-push_args-loop-arg
invariant-push_args-loop-arg l = l.words.items ++ more_args_written (java_trees (drop l.arg-index l.more)) ≡ l.initial.words.items ++ more_args_written (java_trees l.more)

use Rattle.std.proofs.Common.{◌≡◌, ◌++◌, drop, map}
use Rattle.std.specs.List.{flat_map}
use Rattle.java_tree.specs.Seen.{clause_tree}
use Rattle.java_tree.specs.Print.{clause_written}
use Rattle.java_tree.proofs.print_members.push_clauses.Given as goal

-- what is left is still to be written
abbrev pub invariant-loop-clause : goal.invariant-loop-clause
invariant-loop-clause l = l.words.items ++ flat_map clause_written (map clause_tree (drop l.clause-index l.clauses)) ≡ l.initial.words.items ++ flat_map clause_written (map clause_tree l.clauses)

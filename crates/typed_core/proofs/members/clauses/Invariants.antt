use Rattle.std.proofs.Common.{◌≡◌, Ok, drop, map}
use Rattle.java_tree.specs.Seen.{clause_tree}
use Rattle.typed_core.specs.Members.{no_clauses}
use Rattle.typed_core.specs.Reported.{clauses_told}
use Rattle.typed_core.proofs.members.clauses.Given as goal

-- what is left still gives the same
abbrev pub invariant-loop-tree : goal.invariant-loop-tree
invariant-loop-tree l =
    clauses_told l.world l.here l.needs l.gives l.done (map clause_tree (drop l.tree-index l.spec)) ≡ clauses_told l.world l.here 0 0 (Ok no_clauses) (map clause_tree l.spec)

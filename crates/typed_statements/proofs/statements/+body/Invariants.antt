use Rattle.std.proofs.Common.{◌≡◌, [], Ok, drop}
use Rattle.java_tree.specs.Seen.{stmt_trees}
use Rattle.typed_statements.specs.Held.{state_of}
use Rattle.typed_statements.specs.Reported.{stmts_told}
use Rattle.typed_statements.proofs.statements.+body.Given as goal

-- what is left still gives the same
abbrev pub invariant-stmts-loop-tree : goal.invariant-stmts-loop-tree
invariant-stmts-loop-tree l =
    stmts_told l.world l.here l.depth (stmt_trees (drop l.tree-index l.trees)) (state_of l.locals) l.done ≡ stmts_told l.world l.here l.depth (stmt_trees l.trees) (state_of l.initial.locals) (Ok [])

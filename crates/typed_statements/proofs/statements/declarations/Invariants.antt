use Rattle.std.proofs.Common.{◌≡◌, [], Ok, drop, map}
use Rattle.java_tree.specs.Seen.{decl_tree}
use Rattle.typed_statements.specs.Held.{state_of}
use Rattle.typed_statements.specs.Reported.{decls_told}
use Rattle.typed_statements.proofs.statements.declarations.Given as goal

-- what is left still gives the same
abbrev pub invariant-loop-decl : goal.invariant-loop-decl
invariant-loop-decl l =
    decls_told l.world l.here l.sort (map decl_tree (drop l.decl-index l.decls)) (state_of l.locals) l.done ≡ decls_told l.world l.here l.sort (map decl_tree l.decls) (state_of l.initial.locals) (Ok [])

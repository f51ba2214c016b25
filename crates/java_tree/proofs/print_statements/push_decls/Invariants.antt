use Rattle.std.proofs.Common.{◌≡◌, ◌++◌, false, drop, map}
use Rattle.std.specs.List.{flat_map}
use Rattle.java_lex.specs.declared.words.TheConstants.{COMMA}
use Rattle.java_tree.specs.Seen.{decl_tree}
use Rattle.java_tree.specs.Print.{decl_written, symbol}
use Rattle.java_tree.proofs.print_statements.push_decls.Given as goal

-- what is left is still to be written
abbrev pub invariant-loop-decl : goal.invariant-loop-decl
invariant-loop-decl l = l.words.items ++ flat_map (λ e. symbol false COMMA.now ++ decl_written e) (map decl_tree (drop l.decl-index l.more)) ≡ l.initial.words.items ++ flat_map (λ e. symbol false COMMA.now ++ decl_written e) (map decl_tree l.more)

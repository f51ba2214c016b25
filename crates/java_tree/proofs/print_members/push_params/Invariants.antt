use Rattle.std.proofs.Common.{◌≡◌, ◌++◌, false, drop, map}
use Rattle.std.specs.List.{flat_map}
use Rattle.java_lex.specs.declared.words.TheConstants.{COMMA}
use Rattle.java_tree.specs.Seen.{param_tree}
use Rattle.java_tree.specs.Print.{param_written, symbol}
use Rattle.java_tree.proofs.print_members.push_params.Given as goal

-- what is left is still to be written
abbrev pub invariant-loop-param : goal.invariant-loop-param
invariant-loop-param l = l.words.items ++ flat_map (λ q. symbol false COMMA.now ++ param_written q) (map param_tree (drop l.param-index l.more)) ≡ l.initial.words.items ++ flat_map (λ q. symbol false COMMA.now ++ param_written q) (map param_tree l.more)

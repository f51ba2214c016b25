use Rattle.std.proofs.Common.{◌≡◌, ◌++◌, drop, map}
use Rattle.java_tree.specs.Seen.{param_tree}
use Rattle.typed_statements.specs.Heads.{param_known}
use Rattle.typed_statements.proofs.heads.params_known.Given as goal

abbrev pub invariant-loop-param : goal.invariant-loop-param
invariant-loop-param l = l.known ++ map (param_known l.classes l.default) (map param_tree (drop l.param-index l.params)) ≡ map (param_known l.classes l.default) (map param_tree l.params)

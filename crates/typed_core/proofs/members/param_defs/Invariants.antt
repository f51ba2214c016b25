use Rattle.std.proofs.Common.{◌≡◌, ◌++◌, drop, map}
use Rattle.typed_statements.specs.Kinds.{param_def}
use Rattle.typed_core.proofs.members.param_defs.Given as goal

abbrev pub invariant-loop-param : goal.invariant-loop-param
invariant-loop-param l = l.defs ++ map param_def (drop l.param-index l.params) ≡ map param_def l.params

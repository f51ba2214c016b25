use Rattle.std.proofs.Common.{◌≡◌, ◌++◌, drop, map}
use Rattle.typed_statements.proofs.heads.param_names.Given as goal

abbrev pub invariant-loop-param : goal.invariant-loop-param
invariant-loop-param l = l.names ++ map (λ p. (0, p.name)) (drop l.param-index l.params) ≡ map (λ p. (0, p.name)) l.params

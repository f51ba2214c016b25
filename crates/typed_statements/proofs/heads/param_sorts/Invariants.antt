use Rattle.std.proofs.Common.{◌≡◌, ◌++◌, drop, map}
use Rattle.typed_statements.proofs.heads.param_sorts.Given as goal

abbrev pub invariant-loop-param : goal.invariant-loop-param
invariant-loop-param l = l.sorts ++ map (λ p. p.sort) (drop l.param-index l.params) ≡ map (λ p. p.sort) l.params

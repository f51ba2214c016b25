use Rattle.std.proofs.Common.{◌≡◌, [], drop, map}
use Rattle.java_tree.specs.Seen.{param_tree}
use Rattle.declared_names.specs.Faults.{soonest, earlier}
use Rattle.typed_statements.specs.Heads.{params_faults}
use Rattle.typed_statements.proofs.heads.params_fault.Given as goal

-- what is left still has its faults
abbrev pub invariant-loop-param : goal.invariant-loop-param
invariant-loop-param l = earlier l.found (soonest (params_faults l.classes l.before (map param_tree (drop l.param-index l.params)))) ≡ soonest (params_faults l.classes [] (map param_tree l.params))

use Rattle.std.proofs.Common.{◌≡◌, drop}
use Rattle.cnf_core.specs.Truth.{assigned, clause_holds}
use Rattle.cnf_core.proofs.cnf.is_clause_true.Given as goal

-- the literals before this one are false
abbrev pub invariant-loop-lit : goal.invariant-loop-lit
invariant-loop-lit l = clause_holds (assigned l.values) l.clause ≡ clause_holds (assigned l.values) (drop l.lit-index l.clause)

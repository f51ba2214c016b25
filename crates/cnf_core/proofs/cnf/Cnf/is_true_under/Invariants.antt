use Rattle.std.proofs.Common.{◌≡◌, drop}
use Rattle.cnf_core.specs.Truth.{assigned, clauses_hold}
use Rattle.cnf_core.proofs.cnf.Cnf.is_true_under.Given as goal

-- the clauses before this one are true
abbrev pub invariant-loop-place : goal.invariant-loop-place
invariant-loop-place l = clauses_hold (assigned l.values) l.self.clauses ≡ clauses_hold (assigned l.values) (drop l.place l.self.clauses)

use Rattle.std.proofs.Common.{◌≡◌, ◌++◌, drop}
use Rattle.derivation.specs.Propagation.{ends}
use Rattle.derivation.specs.Logs.{clauses_of}
use Rattle.derivation.proofs.checker.do_end.Given as goal

-- the hints before forced what is true now
abbrev pub invariant-loop-place : goal.invariant-loop-place
invariant-loop-place l =
    ends (l.cnf.clauses ++ clauses_of l.before) l.hints l.initial.trues ≡ ends (l.cnf.clauses ++ clauses_of l.before) (drop l.place l.hints) l.trues

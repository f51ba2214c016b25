use Rattle.std.proofs.Common.{◌≡◌, [], take}
use Rattle.derivation.specs.Logs.{Valid}
use Rattle.derivation.proofs.checker.check.Given as goal

-- the lines before follow, and nothing is true between two lines
abbrev pub invariant-loop-place : goal.invariant-loop-place
invariant-loop-place l = (l.trues ≡ []) × Valid l.cnf.clauses (take l.place l.lines)

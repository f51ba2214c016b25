use Rattle.std.proofs.Common.{◌≡◌, ◌++◌, take}
use Rattle.std.specs.List.{flat_map}
use Rattle.derivation.specs.CnfText.{clause_line}
use Rattle.derivation.proofs.writer.push_clauses.Given as goal

-- the clauses before are written
abbrev pub invariant-loop-place : goal.invariant-loop-place
invariant-loop-place l = l.text.items ≡ l.initial.text.items ++ flat_map clause_line (take l.place l.cnf.clauses)

use Rattle.std.proofs.Common.{◌≡◌, length}
use Rattle.derivation.proofs.Bodies.{IsSoFar}
use Rattle.derivation.proofs.cnf_reader.fill.Given as goal

-- the entries read so far are the clauses and what is begun
abbrev pub invariant-loop-cnf : goal.invariant-loop-cnf
invariant-loop-cnf l = IsSoFar l.initial.cnf.vars l.count l.initial.words l.words l.cnf.clauses l.pending.items × (l.cnf.vars ≡ l.initial.cnf.vars)

abbrev pub decreases-loop-cnf : goal.decreases-loop-cnf
decreases-loop-cnf l = length l.words

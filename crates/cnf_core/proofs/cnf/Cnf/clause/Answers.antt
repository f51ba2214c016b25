use Rattle.std.proofs.Common.{length, ap, arith}
use Rattle.cnf_core.proofs.ArenaLemmas.{length-cut}
use Rattle.cnf_core.proofs.cnf.Cnf.clause.Goals as goal

pub piece-requires-clause-within : goal.piece-requires-clause-within
piece-requires-clause-within c =
    omega (arith, c.deref-2.ensures.value, length-cut 0 c.self.inside.ends.items c.self.inside.lits.items, ap (λ v. length v.clauses) c.self.view_is, c.requires)

pub returns-clause-over : goal.returns-clause-over
returns-clause-over c = rw (← c.self.view_is) (c.piece.ensures.part _ (rw c.deref.ensures.value c.self.invariant.over))

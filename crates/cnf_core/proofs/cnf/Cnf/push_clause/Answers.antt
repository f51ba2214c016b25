use Rattle.std.proofs.Common.{All, [], ◌∷◌, ◌++◌, ap, subst, sym, ◌∙◌, arith}
use Rattle.cnf_core.specs.Clauses.{Clauses}
use Rattle.cnf_core.specs.Literal.{IsOver}
use Rattle.cnf_core.proofs.ArenaLemmas.{grows}
use Rattle.cnf_core.proofs.cnf.Cnf.push_clause.Goals as goal

pub invariant_of-self-2 : goal.invariant_of-self-2
invariant_of-self-2 c =
    (grows _ c.self.inside.ends.items c.self.inside.lits.items c.args.lits.now _ _ c.self.invariant
    (subst (λ (v : Clauses). All (IsOver v.vars) c.args.lits.now) (sym c.self.view_is) c.requires) (omega arith)
    c.in_ok-push_piece.ensures.ok.0 c.in_ok-push_piece.ensures.ok.1).whole

pub returns-clause-ok : goal.returns-clause-ok
returns-clause-ok c =
    ap (λ xs. let v : Clauses = record { vars = c.self.inside.vars; clauses = xs } in v)
    (grows _ c.self.inside.ends.items c.self.inside.lits.items c.args.lits.now _ _ c.self.invariant
    (subst (λ (v : Clauses). All (IsOver v.vars) c.args.lits.now) (sym c.self.view_is) c.requires) (omega arith)
    c.in_ok-push_piece.ensures.ok.0 c.in_ok-push_piece.ensures.ok.1).value
    ∙ ap (λ v. let w : Clauses = record { vars = v.vars; clauses = v.clauses ++ c.args.lits.now ∷ [] } in w) c.self.view_is

use Rattle.std.proofs.Common.{ℕ, List, [], subst, sym, All}
use Rattle.std.proofs.lemmas.List.Elements.{All-more}
use Rattle.cnf_core.specs.Literal.{IsOver}
use Rattle.sat_solver.proofs.Loading.{over_once}
use Rattle.sat_solver.proofs.search.Search.load_clause.Goals as goal

pub load_many-requires-clause-over : goal.load_many-requires-clause-over
load_many-requires-clause-over c =
    let s = c.args.self.now in
    subst (All (IsOver s.cnf.vars)) (sym c.deref.ensures.value) (over_once s.cnf.vars c.clause.result.now c.in_ok-lits.lits.items c.clause.ensures.over c.in_ok-lits.ensures.are_once)

pub load_many-requires-clause-clause_over : goal.load_many-requires-clause-clause_over
load_many-requires-clause-clause_over c =
    let s = c.args.self.now in
    All-more (λ (clause : List ℕ). All (IsOver s.cnf.vars) clause) s.cnf.clauses c.args.place [] c.requires.within c.requires.loading.over (subst (All (IsOver s.cnf.vars)) c.clause.ensures.value c.clause.ensures.over)

pub load_short-requires-clause-over : goal.load_short-requires-clause-over
load_short-requires-clause-over c =
    let s = c.args.self.now in
    subst (All (IsOver s.cnf.vars)) (sym c.deref-2.ensures.value) (over_once s.cnf.vars c.clause.result.now c.in_ok-lits.lits.items c.clause.ensures.over c.in_ok-lits.ensures.are_once)

pub load_short-requires-clause-clause_over : goal.load_short-requires-clause-clause_over
load_short-requires-clause-clause_over c =
    let s = c.args.self.now in
    All-more (λ (clause : List ℕ). All (IsOver s.cnf.vars) clause) s.cnf.clauses c.args.place [] c.requires.within c.requires.loading.over (subst (All (IsOver s.cnf.vars)) c.clause.ensures.value c.clause.ensures.over)

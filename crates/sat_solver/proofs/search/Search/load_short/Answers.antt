use Rattle.std.proofs.Common.{◌≡◌, ◌≢◌, ℕ, ◌+◌, true, List, [], ◌∷◌, ◌++◌, length, take, get_or, subst, sym, ap, ◌∙◌, arith}
use Rattle.std.proofs.lemmas.Bool.{eqb-false}
use Rattle.std.proofs.lemmas.List.{take_more, get_or_read}
use Rattle.cnf_core.specs.Trues.{is_true}
use Rattle.sat_watch.specs.Trail.{literals, up_to}
use Rattle.sat_watch.proofs.TrailLemmas.{up_to_all}
use Rattle.sat_solver.specs.Search.{known_by, IsRunning}
use Rattle.sat_solver.proofs.Loading.{running_loaded_true}
use Rattle.sat_solver.proofs.search.Search.load_short.Goals as goal

pub returns-then-is_true-2-clause-loading : goal.returns-then-is_true-2-clause-loading
returns-then-is_true-2-clause-loading c = λ _.
    let s = c.args.self.now in
    let b = c.requires.loading.built in
    let known = known_by s.cnf s.log in
    let lits : List ℕ = c.args.lits.now in
    let place : ℕ = c.args.place in
    let clause : List ℕ = get_or s.cnf.clauses place [] in
    let some : length lits ≢ 0 = eqb-false (length lits) 0 (sym c.is_empty.ensures ∙ c.if-is_empty.false) in
    let one : length lits ≡ 1 = omega (arith, c.requires.few, some) in
    let lit_is : c.index-lits-0-2.result ≡ get_or lits 0 0 = get_or_read lits 0 c.index-lits-0-2.result (omega (arith, one)) c.index-lits-0-2.is 0 in
    let on : is_true (literals s.trail.entries) (get_or lits 0 0) ≡ true = ap (is_true (literals s.trail.entries)) (sym lit_is) ∙ sym c.is_true-2.ensures.value ∙ c.if-is_true-2.true in
    let all : up_to 0 s.trail.entries ≡ s.trail.entries = up_to_all 0 s.trail.level 0 s.trail.entries c.is_true.ensures.sound.rises (omega (arith, c.requires.loading.root)) in
    let front : take (place + 1) s.cnf.clauses ≡ take place s.cnf.clauses ++ clause ∷ [] = take_more s.cnf.clauses place [] c.requires.within in
    record {
      built = record {
        small = b.small;
        vars = b.vars;
        running = subst (λ d. IsRunning known d s.watches s.trail s.notes s.set.items) (sym front)
            (running_loaded_true known (take place s.cnf.clauses) s.watches s.trail s.notes s.set.items clause lits b.running all c.requires.are_once one on);
        queued = b.queued;
        phases = b.phases;
        marks = b.marks;
        minimiser = b.minimiser;
      };
      over = c.requires.clause_over;
      log = c.requires.loading.log;
      root = c.requires.loading.root;
      start = c.requires.loading.start;
    }

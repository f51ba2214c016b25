use Rattle.std.proofs.Common.{◌≡◌, ℕ, ◌+◌, List, [], ◌∷◌, ◌++◌, length, take, get_or, refl, subst, sym, ap, ◌∙◌}
use Rattle.std.proofs.lemmas.List.{take_more}
use Rattle.sat_watch.specs.Watching.{WatchState, Right, RightBut}
use Rattle.sat_solver.specs.Search.{known_by, IsRunning}
use Rattle.sat_solver.proofs.Loading.{can_pair_start, number_loaded, running_loaded_many}
use Rattle.sat_solver.proofs.search.Search.load_many.Goals as goal

pub returns-clause-loading : goal.returns-clause-loading
returns-clause-loading c =
    let s = c.args.self.now in
    let b = c.requires.loading.built in
    let known = known_by s.cnf s.log in
    let lits : List ℕ = c.args.lits.now in
    let place : ℕ = c.args.place in
    let clause : List ℕ = get_or s.cnf.clauses place [] in
    let number : c.in_ok-clause.clause ≡ length s.watches.clauses = c.in_ok-clause.ensures.number in
    let added_vars : c.add.new.self.vars ≡ s.watches.vars = ap (λ (w : WatchState). w.vars) c.in_ok-clause.ensures.ok in
    let added : c.add.new.self.clauses ≡ s.watches.clauses ++ lits ∷ [] = ap (λ (w : WatchState). w.clauses) c.in_ok-clause.ensures.ok in
    let but : RightBut c.in_ok-clause.clause c.add.new.self s.trail = subst (λ k. RightBut k c.add.new.self s.trail) (sym number) (c.in_ok-clause.ensures.right s.trail b.running.right) in
    let right : Right c.watch.new.self s.trail = c.watch.ensures.right s.trail but (can_pair_start s.trail _ _ c.requires.loading.start) in
    let front : take (place + 1) s.cnf.clauses ≡ take place s.cnf.clauses ++ clause ∷ [] = take_more s.cnf.clauses place [] c.requires.within in
    let running = running_loaded_many known (take place s.cnf.clauses) s.watches c.watch.new.self s.trail s.notes (record { numbers = c.push.new.self; units = s.notes.units; levels = s.notes.levels }) s.set.items clause lits (place + 1)
    b.running c.requires.loading.root c.requires.are_once (ap (λ (w : WatchState). w.vars) c.watch.ensures.watched ∙ added_vars) (ap (λ (w : WatchState). w.clauses) c.watch.ensures.watched ∙ added) right
    c.in_ok-push.ensures.items refl refl (number_loaded s.cnf s.log lits place c.requires.within c.requires.are_once) in
    record {
      built = record {
        small = b.small;
        vars = b.vars;
        running = subst (λ d. IsRunning known d c.watch.new.self s.trail (record { numbers = c.push.new.self; units = s.notes.units; levels = s.notes.levels }) s.set.items) (sym front) running;
        queued = b.queued;
        phases = b.phases;
        marks = b.marks;
        minimiser = b.minimiser;
      };
      over = c.requires.clause_over;
      log = c.requires.loading.log;
      root = c.requires.loading.root;
      start = c.requires.loading.start;
    }

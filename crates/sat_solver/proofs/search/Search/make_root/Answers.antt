use Rattle.std.proofs.Common.{◌≡◌, ℕ, ◌+◌, ◌/◌, ◌<◌, None, List, [], ◌∷◌, ◌++◌, length, take, get_or, set, refl, subst, sym, ap, ◌∙◌, arith}
use Rattle.std.specs.Vec.{with_item}
use Rattle.std.proofs.lemmas.List.{take_more, get_or_read}
use Rattle.cnf_core.specs.Literal.{IsOver}
use Rattle.sat_watch.specs.declared.trail.Entry.{Entry}
use Rattle.sat_watch.specs.Trail.{TrailState, literals, up_to}
use Rattle.sat_watch.proofs.TrailLemmas.{up_to_all}
use Rattle.sat_solver.specs.Search.{known_by, AreSet, IsRunning}
use Rattle.sat_solver.proofs.Loading.{number_loaded, running_loaded_one}
use Rattle.sat_solver.proofs.Moves.{queued_more}
use Rattle.sat_solver.proofs.search.Search.make_root.Goals as goal

pub returns-clause-loading : goal.returns-clause-loading
returns-clause-loading c =
    let s = c.args.self.now in
    let b = c.requires.loading.built in
    let known = known_by s.cnf s.log in
    let lits : List ℕ = c.args.lits.now in
    let place : ℕ = c.args.place in
    let clause : List ℕ = get_or s.cnf.clauses place [] in
    let some : 0 < length lits = omega (arith, c.requires.one) in
    let lit_is : c.index-lits-0-2.result ≡ get_or lits 0 0 = get_or_read lits 0 c.index-lits-0-2.result some c.index-lits-0-2.is 0 in
    let var_is : c.var.result ≡ get_or lits 0 0 / 2 = c.var.ensures.value ∙ ap (λ n. n / 2) (get_or_read lits 0 c.index-lits-0.result some c.index-lits-0.is 0) in
    let T : ℕ → TrailState = λ x. record s.trail { entries = s.trail.entries ++ record { lit = x; level = s.trail.level; reason = None } ∷ [] } in
    let t_is : c.set.new.self ≡ T (get_or lits 0 0) = c.set.ensures.adds ∙ ap T lit_is in
    let e : Entry = record { lit = get_or lits 0 0; level = s.trail.level; reason = None } in
    let entries : c.set.new.self.entries ≡ s.trail.entries ++ e ∷ [] = ap (λ (t : TrailState). t.entries) t_is in
    let vars : c.set.new.self.vars ≡ s.trail.vars = ap (λ (t : TrailState). t.vars) t_is in
    let level : c.set.new.self.level ≡ s.trail.level = ap (λ (t : TrailState). t.level) t_is in
    let over : IsOver s.trail.vars (get_or lits 0 0) = subst (λ v. IsOver v (get_or lits 0 0)) (sym b.vars) (c.requires.over 0 0 some) in
    let root : c.set.new.self.level ≡ 0 = level ∙ c.requires.loading.root in
    let all : up_to 0 c.set.new.self.entries ≡ c.set.new.self.entries = up_to_all 0 c.set.new.self.level 0 c.set.new.self.entries c.note_entries.ensures.sound.rises (omega (arith, root)) in
    let front : take (place + 1) s.cnf.clauses ≡ take place s.cnf.clauses ++ clause ∷ [] = take_more s.cnf.clauses place [] c.requires.within in
    let running = running_loaded_one known (take place s.cnf.clauses) s.watches s.trail c.set.new.self s.notes (record { numbers = s.notes.numbers; units = with_item s.notes.units c.var.result (place + 1); levels = c.note_entries.new.levels }) s.set.items c.note_entries.new.set.items
    clause lits (place + 1) b.running c.requires.loading.root c.requires.are_once c.requires.one over c.requires.unset t_is (c.set.ensures.right s.watches b.running.right) all refl (ap (λ k. set s.notes.units.items k (place + 1)) var_is)
    (c.note_entries.ensures.levels_all ∙ b.running.noted.levels ∙ ap (λ k. k + 1) (sym vars)) c.note_entries.ensures.leveled c.note_entries.ensures.marked
    (c.note_entries.ensures.set_all ∙ b.running.room ∙ sym vars) (number_loaded s.cnf s.log lits place c.requires.within c.requires.are_once) in
    record {
      built = record {
        small = b.small;
        vars = vars ∙ b.vars;
        running = subst (λ d. IsRunning known d s.watches c.set.new.self (record { numbers = s.notes.numbers; units = with_item s.notes.units c.var.result (place + 1); levels = c.note_entries.new.levels }) c.note_entries.new.set.items) (sym front) running;
        queued = queued_more s.cnf.vars s.queue s.set.items c.note_entries.new.set.items s.trail.entries (e ∷ []) b.queued b.running.marked
            (subst (λ es. AreSet c.note_entries.new.set.items (literals es)) entries c.note_entries.ensures.marked);
        phases = b.phases;
        marks = b.marks;
        minimiser = c.note_entries.ensures.room s.cnf.vars b.minimiser;
      };
      over = c.requires.clause_over;
      log = c.requires.loading.log;
      root = root;
      start = ap (λ (t : TrailState). t.passed) t_is ∙ c.requires.loading.start;
    }

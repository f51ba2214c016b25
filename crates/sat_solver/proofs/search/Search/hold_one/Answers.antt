use Rattle.std.proofs.Common.{◌≡◌, ℕ, ◌+◌, ◌/◌, None, List, [], ◌∷◌, ◌++◌, get_or, set, refl, subst, sym, ap, ◌∙◌}
use Rattle.std.specs.Vec.{with_item}
use Rattle.std.proofs.lemmas.List.{get_or_read}
use Rattle.sat_watch.specs.declared.trail.Entry.{Entry}
use Rattle.sat_watch.specs.Trail.{TrailState, literals}
use Rattle.sat_solver.specs.Search.{known_by, AreSet, IsLogged, IsRunning}
use Rattle.sat_solver.proofs.Holding.{known_push, logged_push, running_held_one}
use Rattle.sat_solver.proofs.Moves.{queued_more}
use Rattle.sat_solver.proofs.search.Search.hold_one.Goals as goal

pub returns-clause-search : goal.returns-clause-search
returns-clause-search c =
    let s = c.args.self.now in
    let b = c.requires.search.built in
    let known = known_by s.cnf s.log in
    let lits : List ℕ = c.args.lits.now in
    let lit_is : c.index-lits-0-2.result ≡ get_or lits 0 0 = get_or_read lits 0 c.index-lits-0-2.result c.requires.asserting.some c.index-lits-0-2.is 0 in
    let var_is : c.var.result ≡ get_or lits 0 0 / 2 = c.var.ensures.value ∙ ap (λ n. n / 2) (get_or_read lits 0 c.index-lits-0.result c.requires.asserting.some c.index-lits-0.is 0) in
    let T : ℕ → TrailState = λ x. record s.trail { entries = s.trail.entries ++ record { lit = x; level = s.trail.level; reason = None } ∷ [] } in
    let t_is : c.set.new.self ≡ T (get_or lits 0 0) = c.set.ensures.adds ∙ ap T lit_is in
    let e : Entry = record { lit = get_or lits 0 0; level = s.trail.level; reason = None } in
    let entries : c.set.new.self.entries ≡ s.trail.entries ++ e ∷ [] = ap (λ (t : TrailState). t.entries) t_is in
    let vars : c.set.new.self.vars ≡ s.trail.vars = ap (λ (t : TrailState). t.vars) t_is in
    let log : c.push.new.self ≡ s.log ++ c.args.line ∷ [] = c.in_ok-push.ensures.ok in
    let running = running_held_one known s.watches s.trail c.set.new.self s.notes (record { numbers = s.notes.numbers; units = with_item s.notes.units c.var.result c.args.number; levels = c.note_entries.new.levels }) s.set.items c.note_entries.new.set.items c.args.line lits c.args.number
    b.running c.requires.asserting c.requires.one t_is (c.set.ensures.right s.watches b.running.right) refl (ap (λ k. set s.notes.units.items k c.args.number) var_is)
    (c.note_entries.ensures.levels_all ∙ b.running.noted.levels ∙ ap (λ k. k + 1) (sym vars)) c.note_entries.ensures.leveled c.note_entries.ensures.marked
    (c.note_entries.ensures.set_all ∙ b.running.room ∙ sym vars) c.requires.number in
    record {
      built = record {
        small = b.small;
        vars = vars ∙ b.vars;
        running = subst (λ k. IsRunning k k s.watches c.set.new.self (record { numbers = s.notes.numbers; units = with_item s.notes.units c.var.result c.args.number; levels = c.note_entries.new.levels }) c.note_entries.new.set.items)
            (sym (ap (known_by s.cnf) log ∙ known_push s.cnf s.log c.args.line)) running;
        queued = queued_more s.cnf.vars s.queue s.set.items c.note_entries.new.set.items s.trail.entries (e ∷ []) b.queued b.running.marked
            (subst (λ es. AreSet c.note_entries.new.set.items (literals es)) entries c.note_entries.ensures.marked);
        phases = b.phases;
        marks = b.marks;
        minimiser = c.note_entries.ensures.room s.cnf.vars b.minimiser;
      };
      logged = subst (IsLogged s.cnf) (sym log) (logged_push s.cnf s.log s.trail s.notes.levels.items lits c.args.line c.requires.search.logged b.vars c.requires.asserting c.push.ensures.fit);
      over = c.requires.search.over;
    }

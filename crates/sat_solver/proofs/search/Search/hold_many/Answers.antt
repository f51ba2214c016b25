use Rattle.std.proofs.Common.{◌≡◌, ℕ, ◌+◌, Some, List, [], ◌∷◌, ◌++◌, length, get_or, refl, subst, sym, ap, ◌∙◌}
use Rattle.std.proofs.lemmas.List.{get_or_read, get_or_push}
use Rattle.sat_watch.specs.declared.trail.Entry.{Entry}
use Rattle.sat_watch.specs.Trail.{TrailState, literals}
use Rattle.sat_watch.specs.Watching.{WatchState, CanPair, Right, RightBut}
use Rattle.sat_analysis.specs.Walk.{AreLeveled}
use Rattle.sat_solver.specs.Search.{known_by, AreSet, IsLogged, IsRunning}
use Rattle.sat_solver.proofs.Holding.{known_push, logged_push, can_pair, running_held_many, front_same}
use Rattle.sat_solver.proofs.Moves.{queued_more}
use Rattle.sat_solver.proofs.search.Search.hold_many.Goals as goal

pub note_entries-requires-clause-leveled : goal.note_entries-requires-clause-leveled
note_entries-requires-clause-leveled c =
    let s = c.args.self.now in
    let e : Entry = record { lit = c.index-lits-0.result; level = s.trail.level; reason = Some c.in_ok-clause.clause } in
    subst (AreLeveled s.notes.levels.items) (sym (front_same s.trail c.set.new.self e (length c.entries-from.result.now) (ap (λ (t : TrailState). t.entries) c.set.ensures.adds) (ap length c.entries-from.ensures.value)))
    c.requires.search.built.running.noted.leveled

pub note_entries-requires-clause-marked : goal.note_entries-requires-clause-marked
note_entries-requires-clause-marked c =
    let s = c.args.self.now in
    let e : Entry = record { lit = c.index-lits-0.result; level = s.trail.level; reason = Some c.in_ok-clause.clause } in
    subst (λ es. AreSet s.set.items (literals es)) (sym (front_same s.trail c.set.new.self e (length c.entries-from.result.now) (ap (λ (t : TrailState). t.entries) c.set.ensures.adds) (ap length c.entries-from.ensures.value)))
    c.requires.search.built.running.marked

pub returns-clause-search : goal.returns-clause-search
returns-clause-search c =
    let s = c.args.self.now in
    let b = c.requires.search.built in
    let known = known_by s.cnf s.log in
    let lits : List ℕ = c.args.lits.now in
    let lit_is : c.index-lits-0.result ≡ get_or lits 0 0 = get_or_read lits 0 c.index-lits-0.result c.requires.asserting.some c.index-lits-0.is 0 in
    let number : c.in_ok-clause.clause ≡ length s.watches.clauses = c.in_ok-clause.ensures.number in
    let T : ℕ → ℕ → TrailState = λ x r. record s.trail { entries = s.trail.entries ++ record { lit = x; level = s.trail.level; reason = Some r } ∷ [] } in
    let t_is : c.set.new.self ≡ T (get_or lits 0 0) (length s.watches.clauses) = c.set.ensures.adds ∙ ap (λ x. T x c.in_ok-clause.clause) lit_is ∙ ap (λ r. T (get_or lits 0 0) r) number in
    let e : Entry = record { lit = get_or lits 0 0; level = s.trail.level; reason = Some (length s.watches.clauses) } in
    let entries : c.set.new.self.entries ≡ s.trail.entries ++ e ∷ [] = ap (λ (t : TrailState). t.entries) t_is in
    let vars : c.set.new.self.vars ≡ s.trail.vars = ap (λ (t : TrailState). t.vars) t_is in
    let added_vars : c.add.new.self.vars ≡ s.watches.vars = ap (λ (w : WatchState). w.vars) c.in_ok-clause.ensures.ok in
    let added : c.add.new.self.clauses ≡ s.watches.clauses ++ lits ∷ [] = ap (λ (w : WatchState). w.clauses) c.in_ok-clause.ensures.ok in
    let here : get_or c.add.new.self.clauses c.in_ok-clause.clause [] ≡ lits =
    ap (λ cs. get_or cs c.in_ok-clause.clause []) added ∙ ap (λ k. get_or (s.watches.clauses ++ lits ∷ []) k []) number ∙ get_or_push s.watches.clauses lits [] (length s.watches.clauses) refl in
    let but : RightBut c.in_ok-clause.clause c.add.new.self c.set.new.self =
    subst (λ k. RightBut k c.add.new.self c.set.new.self) (sym number) (c.in_ok-clause.ensures.right c.set.new.self (c.set.ensures.right s.watches b.running.right)) in
    let pair : CanPair c.set.new.self (get_or lits 0 0) (get_or lits 1 0) =
    can_pair known s.trail c.set.new.self s.notes.levels.items lits c.args.line e c.entries-from.ensures.sound b.running.noted.leveled c.requires.asserting c.requires.many entries (ap (λ (t : TrailState). t.passed) t_is) refl refl in
    let right : Right c.watch.new.self c.set.new.self =
    c.watch.ensures.right c.set.new.self but (subst (λ cl. CanPair c.set.new.self (get_or cl 0 0) (get_or cl 1 0)) (sym here) pair) in
    let log : c.push-2.new.self ≡ s.log ++ c.args.line ∷ [] = c.in_ok-push-2.ensures.ok in
    let running = running_held_many known s.watches c.watch.new.self s.trail c.set.new.self s.notes (record { numbers = c.push.new.self; units = s.notes.units; levels = c.note_entries.new.levels }) s.set.items c.note_entries.new.set.items c.args.line lits c.args.number
    b.running c.requires.asserting (ap (λ (w : WatchState). w.vars) c.watch.ensures.watched ∙ added_vars) (ap (λ (w : WatchState). w.clauses) c.watch.ensures.watched ∙ added) t_is right
    c.in_ok-push.ensures.items refl (c.note_entries.ensures.levels_all ∙ b.running.noted.levels ∙ ap (λ k. k + 1) (sym vars)) c.note_entries.ensures.leveled c.note_entries.ensures.marked
    (c.note_entries.ensures.set_all ∙ b.running.room ∙ sym vars) c.requires.number in
    record {
      built = record {
        small = b.small;
        vars = vars ∙ b.vars;
        running = subst (λ k. IsRunning k k c.watch.new.self c.set.new.self (record { numbers = c.push.new.self; units = s.notes.units; levels = c.note_entries.new.levels }) c.note_entries.new.set.items)
            (sym (ap (known_by s.cnf) log ∙ known_push s.cnf s.log c.args.line)) running;
        queued = queued_more s.cnf.vars s.queue s.set.items c.note_entries.new.set.items s.trail.entries (e ∷ []) b.queued b.running.marked
            (subst (λ es. AreSet c.note_entries.new.set.items (literals es)) entries c.note_entries.ensures.marked);
        phases = b.phases;
        marks = b.marks;
        minimiser = c.note_entries.ensures.room s.cnf.vars b.minimiser;
      };
      logged = subst (IsLogged s.cnf) (sym log) (logged_push s.cnf s.log s.trail s.notes.levels.items lits c.args.line c.requires.search.logged b.vars c.requires.asserting c.push-2.ensures.fit);
      over = c.requires.search.over;
    }

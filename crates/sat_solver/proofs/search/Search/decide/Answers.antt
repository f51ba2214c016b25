use Rattle.std.proofs.Common.{◌≡◌, ℕ, ◌+◌, ◌*◌, ◌<◌, false, arith, None, [], ◌∷◌, length, refl, subst, sym, ap, ◌∙◌}
use Rattle.sat_watch.specs.declared.trail.Entry.{Entry}
use Rattle.std.proofs.lemmas.Bool.{cond_both}
use Rattle.std.proofs.lemmas.List.{length-map}
use Rattle.cnf_core.specs.Literal.{IsOver}
use Rattle.sat_watch.specs.Literals.{IsOpen}
use Rattle.sat_watch.specs.Trail.{TrailState, literals, levels}
use Rattle.sat_watch.proofs.TrailLemmas.{room_more, rises_few}
use Rattle.sat_solver.proofs.Running.{open_free}
use Rattle.sat_solver.specs.Search.{known_by, AreSet, has_value}
use Rattle.sat_solver.proofs.Moves.{running_decided, queued_more}
use Rattle.sat_solver.proofs.search.Search.decide.Goals as goal

pub returns-clause-search : goal.returns-clause-search
returns-clause-search c =
    let s = c.args.self.now in
    let b = c.requires.search.built in
    let known = known_by s.cnf s.log in
    let vars : c.decide.new.self.vars ≡ s.trail.vars = ap (λ (t : TrailState). t.vars) c.decide.ensures.adds in
    let e : Entry = record { lit = c.with_phase-lit.result; level = s.trail.level + 1; reason = None } in
    record {
      built = record {
        small = b.small;
        vars = vars ∙ b.vars;
        running = running_decided known known s.watches s.trail c.decide.new.self s.notes
            (record { numbers = s.notes.numbers; units = s.notes.units; levels = c.note_entries.new.levels }) s.set.items c.note_entries.new.set.items c.with_phase-lit.result b.running c.entries-from.ensures.sound
            c.requires.quiet c.decide.ensures.adds (c.decide.ensures.right s.watches b.running.right)
            (record {
              numbers = refl;
              units = refl;
              size = c.note_entries.ensures.levels_all ∙ b.running.noted.levels ∙ ap (λ v. v + 1) (sym vars);
              leveled = c.note_entries.ensures.leveled;
              marked = c.note_entries.ensures.marked;
              room = c.note_entries.ensures.set_all ∙ b.running.room ∙ sym vars;
            });
        queued = queued_more s.cnf.vars s.queue s.set.items c.note_entries.new.set.items s.trail.entries (e ∷ []) b.queued b.running.marked
            (subst (λ (t : TrailState). AreSet c.note_entries.new.set.items (literals t.entries)) c.decide.ensures.adds c.note_entries.ensures.marked);
        phases = b.phases;
        marks = b.marks;
        minimiser = c.note_entries.ensures.room s.cnf.vars b.minimiser;
      };
      logged = c.requires.search.logged;
      over = c.requires.search.over;
    }

pub returns-clause-room : goal.returns-clause-room
returns-clause-room c =
    let s = c.args.self.now in
    let t = s.trail in
    let b = c.requires.search.built in
    let var : ℕ = c.args.var in
    let none : has_value (literals t.entries) var ≡ false = sym (b.running.marked var c.requires.from_one) ∙ c.requires.free in
    let o = open_free (literals t.entries) var none in
    let P : ℕ → Type 0 = λ lit. IsOpen (literals t.entries) lit × IsOver t.vars lit in
    let lit : P c.with_phase-lit.result = subst P (sym c.with_phase-lit.ensures)
    (cond_both c.index.result.now (2 * var) (2 * var + 1) P (λ positive. (o.0, (omega (arith, c.requires.from_one), omega (arith, c.requires.within)))) (λ negative. (o.1, (omega (arith, c.requires.from_one), omega (arith, c.requires.within))))) in
    let few : length t.entries < t.vars = room_more t.vars t.level t.passed t.entries c.with_phase-lit.result c.entries-from.ensures.sound lit.1 lit.0 in
    omega (arith, few, rises_few 0 t.level (levels t.entries) c.entries-from.ensures.sound.rises, length-map t.entries (λ (x : Entry). x.level))

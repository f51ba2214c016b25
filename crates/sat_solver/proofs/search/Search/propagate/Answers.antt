use Rattle.std.proofs.Common.{◌+◌, refl, subst, sym, ap, ◌∙◌}
use Rattle.sat_watch.specs.Trail.{literals}
use Rattle.sat_solver.specs.Search.{known_by, AreSet}
use Rattle.sat_solver.proofs.Moves.{running_grown, queued_more}
use Rattle.sat_solver.proofs.search.Search.propagate.Goals as goal

pub returns-clause-search : goal.returns-clause-search
returns-clause-search c =
    let s = c.args.self.now in
    let b = c.requires.built in
    let known = known_by s.cnf s.log in
    let g = c.propagate-conflict.ensures.grows in
    record {
      built = record {
        small = b.small;
        vars = g.vars ∙ b.vars;
        running = running_grown known known s.watches c.propagate-conflict.new.self s.trail c.propagate-conflict.new.trail s.notes
            (record { numbers = s.notes.numbers; units = s.notes.units; levels = c.note_entries.new.levels }) s.set.items c.note_entries.new.set.items b.running c.propagate-conflict.ensures.vars c.propagate-conflict.ensures.clauses
            g c.propagate-conflict.ensures.right
            (record {
              numbers = refl;
              units = refl;
              size = c.note_entries.ensures.levels_all ∙ b.running.noted.levels ∙ ap (λ v. v + 1) (sym g.vars);
              leveled = c.note_entries.ensures.leveled;
              marked = c.note_entries.ensures.marked;
              room = c.note_entries.ensures.set_all ∙ b.running.room ∙ sym g.vars;
            });
        queued = queued_more s.cnf.vars s.queue s.set.items c.note_entries.new.set.items s.trail.entries g.added b.queued b.running.marked
            (subst (λ es. AreSet c.note_entries.new.set.items (literals es)) g.is c.note_entries.ensures.marked);
        phases = b.phases;
        marks = b.marks;
        minimiser = c.note_entries.ensures.room s.cnf.vars b.minimiser;
      };
      logged = c.requires.logged;
      over = c.requires.over;
    }

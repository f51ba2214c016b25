use Rattle.std.proofs.Common.{◌≡◌, ◌/◌, get_or, length, subst, sym, ap, ◌∙◌}
use Rattle.std.specs.Prelude.{nat_le}
use Rattle.std.proofs.lemmas.List.Elements.{All-filter}
use Rattle.sat_watch.specs.declared.trail.Entry.{Entry}
use Rattle.sat_watch.specs.Trail.{literals, up_to}
use Rattle.sat_analysis.specs.Walk.{AreLeveled}
use Rattle.sat_order.specs.Order.{IsOrder}
use Rattle.sat_solver.specs.Search.{known_by, AreSet}
use Rattle.sat_solver.proofs.Moves.{running_back}
use Rattle.sat_solver.proofs.search.Search.back_to.Goals as goal

pub returns-clause-search : goal.returns-clause-search
returns-clause-search c =
    let s = c.args.self.now in
    let b = c.requires.search.built in
    let known = known_by s.cnf s.log in
    let front = c.back_to.ensures.front in
    let vars : c.vars-vars.result ≡ s.cnf.vars = c.vars-vars.ensures ∙ b.vars in
    let marked : AreSet c.release.new.set.items (literals c.back_to.new.self.entries) =
    subst (λ es. AreSet c.release.new.set.items (literals es)) (ap (up_to c.args.level) c.entries.ensures.value ∙ sym c.back_to.ensures.entries) c.release.ensures.marked in
    let leveled : AreLeveled s.notes.levels.items c.back_to.new.self.entries =
    subst (AreLeveled s.notes.levels.items) (sym c.back_to.ensures.entries) (All-filter (λ (e : Entry). nat_le e.level c.args.level) (λ (e : Entry). get_or s.notes.levels.items (e.lit / 2) 0 ≡ e.level) s.trail.entries b.running.noted.leveled) in
    record {
      built = record {
        small = b.small;
        vars = c.back_to.ensures.vars ∙ b.vars;
        running = running_back known known s.watches s.trail c.back_to.new.self s.notes s.set.items c.release.new.set.items c.args.level front.rest b.running c.back_to.ensures.entries front.is c.back_to.ensures.level c.back_to.ensures.vars
            c.requires.below (c.back_to.ensures.right s.watches b.running.right) leveled marked (c.release.ensures.set_all ∙ c.vars-vars.ensures);
        queued = record {
          order = subst IsOrder (sym c.release.ensures.vars) b.queued.order;
          all = ap length c.release.ensures.vars ∙ b.queued.all;
          passed = c.release.ensures.passed;
        };
        phases = c.release.ensures.phases_all ∙ vars;
        marks = b.marks;
        minimiser = b.minimiser;
      };
      logged = c.requires.search.logged;
      over = c.requires.search.over;
    }

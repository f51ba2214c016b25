use Rattle.std.proofs.Common.{◌≡◌, ℕ, ◌-◌, ◌/◌, ◌<◌, ◌≤◌, true, false, not, length-set, take, set, subst, sym, ap, ◌∙◌, arith}
use Rattle.cnf_core.specs.Literal.{IsOver}
use Rattle.sat_order.specs.Lists.{holds}
use Rattle.sat_order.specs.Order.{passed, IsOrder, is_free}
use Rattle.sat_watch.specs.declared.trail.Entry.{Entry}
use Rattle.sat_watch.specs.Trail.{literals}
use Rattle.sat_watch.proofs.TrailLemmas.{above_more, kept_all}
use Rattle.sat_solver.specs.Search.{AreSet}
use Rattle.sat_solver.proofs.TableLemmas.{set_less, lit_over, freed_more}
use Rattle.sat_solver.proofs.tables.release.Goals as goal

pub entries-preserved : goal.entries-preserved
entries-preserved c =
    let e = c.index-entries-kept-in-entries.result in
    let var : c.var.result ≡ e.lit / 2 = c.var.ensures.value ∙ ap (λ (x : Entry). x.lit / 2) (sym c.index-entries-kept-in-entries.is) in
    let var2 : c.var-in-entries-2.result ≡ e.lit / 2 = c.var-in-entries-2.ensures.value ∙ ap (λ (x : Entry). x.lit / 2) (sym c.index-entries-kept-in-entries.is) in
    let over : IsOver c.args.vars e.lit = lit_over c.args.entries.now c.args.vars (c.entries.kept - 1) e c.requires.over (omega (arith, c.entries.invariant.within, c.entries-test.true)) c.index-entries-kept-in-entries.is in
    let order : IsOrder c.freed.new.self.vars = subst IsOrder (sym (c.freed.ensures.vars ∙ c.entries.invariant.queued)) c.requires.order in
    record {
      within = omega (arith, c.entries.invariant.within);
      gone = above_more c.args.entries.now c.entries.kept c.args.level c.index-entries-kept.result c.entries-test.true c.entries.invariant.within c.index-entries-kept.is
          (subst (λ (x : Entry). c.args.level < x.level) (sym c.index-entries-kept.is) c.if-entries-kept.true) c.entries.invariant.gone;
      marked = subst (λ k. AreSet (set c.entries.set.items (k - 1) false) (literals (take (c.entries.kept - 1) c.args.entries.now))) (sym var)
          (set_less c.args.entries.now c.entries.set.items c.entries.kept c.args.vars e c.requires.apart c.requires.over c.entries-test.true c.entries.invariant.within c.index-entries-kept-in-entries.is
          c.entries.invariant.set_all c.entries.invariant.marked);
      set_all = length-set c.entries.set.items (c.var.result - 1) false ∙ c.entries.invariant.set_all;
      phases_all = length-set c.entries.phases.items (c.var-in-entries.result - 1) (not c.is_negative.result) ∙ c.entries.invariant.phases_all;
      queued = c.freed.ensures.vars ∙ c.entries.invariant.queued;
      passed = subst (λ k. (v : ℕ) → holds (passed c.freed.new.self) v ≡ true → is_free (set c.entries.set.items (k - 1) false) v ≡ false) (var2 ∙ sym var)
          (freed_more c.entries.queue c.freed.new.self c.entries.set.items c.var-in-entries-2.result order c.var-in-entries-2.ensures.from_one c.entries.invariant.passed c.freed.ensures.passed);
    }

pub returns-else-entries-kept-clause-marked : goal.returns-else-entries-kept-clause-marked
returns-else-entries-kept-clause-marked c =
    subst (λ es. AreSet c.entries.set.items (literals es))
    (kept_all c.args.entries.now c.entries.kept c.args.level c.args.top c.index-entries-kept.result c.requires.rises c.entries-test.true c.entries.invariant.within c.index-entries-kept.is
    (subst (λ (x : Entry). x.level ≤ c.args.level) (sym c.index-entries-kept.is) c.if-entries-kept.false) c.entries.invariant.gone)
    c.entries.invariant.marked

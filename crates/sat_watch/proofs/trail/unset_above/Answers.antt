use Rattle.std.proofs.Common.{◌≡◌, ◌<◌, ◌≤◌, ◌-◌, ◌∙◌, length, length-set, sym, ap, arith, subst, false, take, slice_set}
use Rattle.cnf_core.specs.Trues.{AreMarks}
use Rattle.sat_watch.specs.Trail.{literals}
use Rattle.sat_watch.specs.declared.trail.Entry.{Entry}
use Rattle.sat_watch.proofs.TrailLemmas.{above_more, kept_all, unmarked, entry_place}
use Rattle.sat_watch.proofs.trail.unset_above.Goals as goal

pub index_mut-requires : goal.index_mut-requires
index_mut-requires c =
    let at = entry_place c.args.entries.now (length c.args.truths.now.items) (c.loop-kept.kept - 1) c.index-entries-kept-in-loop-kept.result c.requires.places (omega (arith, c.loop-kept.invariant.within)) c.index-entries-kept-in-loop-kept.is in
    let same = ap (λ (e : Entry). e.lit) c.index-entries-kept-in-loop-kept.is in
    omega (arith, c.loop-kept.invariant.length)

pub loop-kept-preserved : goal.loop-kept-preserved
loop-kept-preserved c =
    let e : Entry = c.index-entries-kept-in-loop-kept.result in
    let lit : c.number.result ≡ e.lit = c.number.ensures.value ∙ ap (λ (x : Entry). x.lit) (sym c.index-entries-kept-in-loop-kept.is) in
    let place : e.lit < length c.loop-kept.truths.items =
    let at = entry_place c.args.entries.now (length c.args.truths.now.items) (c.loop-kept.kept - 1) e c.requires.places (omega (arith, c.loop-kept.invariant.within)) c.index-entries-kept-in-loop-kept.is in
    omega (arith, c.loop-kept.invariant.length) in
    record {
      within = omega (arith, c.loop-kept.invariant.within);
      above = above_more c.args.entries.now c.loop-kept.kept c.args.level c.index-entries-kept.result c.loop-kept-test.true c.loop-kept.invariant.within c.index-entries-kept.is
          (subst (λ (x : Entry). c.args.level < x.level) (sym c.index-entries-kept.is) c.if-entries-kept.true) c.loop-kept.invariant.above;
      marked = subst (λ n. AreMarks (slice_set c.loop-kept.truths.items n false) (literals (take (c.loop-kept.kept - 1) c.args.entries.now))) (sym lit)
          (unmarked c.args.entries.now c.loop-kept.truths.items c.loop-kept.kept e c.requires.apart c.loop-kept-test.true c.loop-kept.invariant.within c.index-entries-kept-in-loop-kept.is c.loop-kept.invariant.marked place);
      length = length-set c.loop-kept.truths.items c.number.result false ∙ c.loop-kept.invariant.length;
    }

pub returns-else-entries-kept-clause-kept : goal.returns-else-entries-kept-clause-kept
returns-else-entries-kept-clause-kept c =
    kept_all c.args.entries.now c.loop-kept.kept c.args.level c.args.top c.index-entries-kept.result c.requires.rises c.loop-kept-test.true c.loop-kept.invariant.within c.index-entries-kept.is
    (subst (λ (e : Entry). e.level ≤ c.args.level) (sym c.index-entries-kept.is) c.if-entries-kept.false) c.loop-kept.invariant.above

use Rattle.std.proofs.Common.{◌≡◌, ◌+◌, ◌-◌, ◌/◌, ◌<◌, true, length, length-set, take, set, get_or, subst, sym, ap, ◌∙◌, arith}
use Rattle.cnf_core.specs.Literal.{IsOver}
use Rattle.sat_watch.specs.Trail.{literals}
use Rattle.sat_analysis.specs.Walk.{AreLeveled}
use Rattle.sat_analysis.proofs.Steps.{entry_over, entry_is}
use Rattle.sat_solver.specs.Search.{AreSet}
use Rattle.sat_solver.proofs.TableLemmas.{AreNoted, noted_more}
use Rattle.sat_solver.proofs.tables.note_entries.Goals as goal

pub index_mut-requires : goal.index_mut-requires
index_mut-requires c =
    let e = c.index-entries-place.result in
    let here : c.loop-place.place < length c.args.trail.now.entries = omega (arith, c.loop-place-test.true, ap length c.entries-entries.ensures.value) in
    let is : e ≡ get_or c.args.trail.now.entries c.loop-place.place e = entry_is c.entries-entries.result.now c.args.trail.now.entries c.loop-place.place e c.entries-entries.ensures.value c.index-entries-place.is in
    let over : IsOver c.args.trail.now.vars e.lit = entry_over c.args.trail.now c.loop-place.place e c.entries-entries.ensures.sound here is in
    let var : c.var.result ≡ e.lit / 2 = c.var.ensures.value in
    omega (arith, over, var, c.loop-place.invariant.levels_all, c.requires.levels_all, c.loop-place.levels.ok)

pub index_mut-requires-in-loop-place : goal.index_mut-requires-in-loop-place
index_mut-requires-in-loop-place c =
    let e = c.index-entries-place.result in
    let here : c.loop-place.place < length c.args.trail.now.entries = omega (arith, c.loop-place-test.true, ap length c.entries-entries.ensures.value) in
    let is : e ≡ get_or c.args.trail.now.entries c.loop-place.place e = entry_is c.entries-entries.result.now c.args.trail.now.entries c.loop-place.place e c.entries-entries.ensures.value c.index-entries-place.is in
    let over : IsOver c.args.trail.now.vars e.lit = entry_over c.args.trail.now c.loop-place.place e c.entries-entries.ensures.sound here is in
    let var : c.var-in-loop-place.result ≡ e.lit / 2 = c.var-in-loop-place.ensures.value in
    omega (arith, over, var, c.loop-place.invariant.set_all, c.requires.set_all, c.loop-place.set.ok)

pub loop-place-preserved : goal.loop-place-preserved
loop-place-preserved c =
    let e = c.index-entries-place.result in
    let here : c.loop-place.place < length c.args.trail.now.entries = omega (arith, c.loop-place-test.true, ap length c.entries-entries.ensures.value) in
    let is : e ≡ get_or c.args.trail.now.entries c.loop-place.place e = entry_is c.entries-entries.result.now c.args.trail.now.entries c.loop-place.place e c.entries-entries.ensures.value c.index-entries-place.is in
    let var : c.var.result ≡ e.lit / 2 = c.var.ensures.value in
    let var' : c.var-in-loop-place.result ≡ e.lit / 2 = c.var-in-loop-place.ensures.value in
    let more : AreNoted (set c.loop-place.levels.items (e.lit / 2) e.level) (set c.loop-place.set.items (e.lit / 2 - 1) true) (take (c.loop-place.place + 1) c.args.trail.now.entries) =
    noted_more c.args.trail.now c.loop-place.levels.items c.loop-place.set.items c.loop-place.place e c.entries-entries.ensures.sound here is
    (c.loop-place.invariant.levels_all ∙ c.requires.levels_all) (c.loop-place.invariant.set_all ∙ c.requires.set_all) c.loop-place.invariant.leveled c.loop-place.invariant.marked in
    record {
      leveled = subst (λ k. AreLeveled (set c.loop-place.levels.items k e.level) (take (c.loop-place.place + 1) c.args.trail.now.entries)) (sym var) more.leveled;
      marked = subst (λ k. AreSet (set c.loop-place.set.items (k - 1) true) (literals (take (c.loop-place.place + 1) c.args.trail.now.entries))) (sym var') more.marked;
      levels_all = length-set c.loop-place.levels.items c.var.result e.level ∙ c.loop-place.invariant.levels_all;
      set_all = length-set c.loop-place.set.items (c.var-in-loop-place.result - 1) true ∙ c.loop-place.invariant.set_all;
    }

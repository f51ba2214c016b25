use Rattle.std.proofs.Common.{◌≡◌, ◌+◌, ◌-◌, ◌<◌, false, length, take, get_or, subst, sym, ap, ◌∙◌, arith}
use Rattle.cnf_core.specs.Literal.{negated, IsOver}
use Rattle.sat_watch.specs.declared.trail.Entry.{Entry}
use Rattle.sat_watch.specs.Literals.{has}
use Rattle.sat_watch.proofs.LiteralLemmas.{over_negated}
use Rattle.sat_analysis.specs.Walk.{IsAt, marked_at}
use Rattle.sat_analysis.proofs.Steps.{entry_over, entry_is, at_skip, marked_skip, some_left}
use Rattle.sat_analysis.proofs.walk.last_marked.Goals as goal

pub places-init : goal.places-init
places-init c =
    let some : 0 < c.args.left = some_left c.args.trail.now.entries c.args.marks.now.lits c.args.trail.now.level c.args.left c.requires.one in
    let back : c.args.left ≡ c.args.left - 1 + 1 = omega arith in
    record {
      within = omega arith;
      one = subst (λ k. 1 ≡ marked_at c.args.marks.now.lits c.args.trail.now.level (take k c.args.trail.now.entries)) back c.requires.one;
      at = λ known hints h. subst (IsAt known c.args.trail.now.entries c.args.marks.now.lits hints c.args.trail.now.level 1) back h;
    }

pub holds-requires : goal.holds-requires
holds-requires c =
    let e = c.index-entries-place.result in
    let here : c.places.place < length c.args.trail.now.entries = omega (arith, c.places.invariant.within, c.requires.within) in
    let is : e ≡ get_or c.args.trail.now.entries c.places.place e = entry_is c.entries-entries.result.now c.args.trail.now.entries c.places.place e c.entries-entries.ensures.value c.index-entries-place.is in
    let over : IsOver c.args.trail.now.vars (negated e.lit) = over_negated c.args.trail.now.vars e.lit (entry_over c.args.trail.now c.places.place e c.entries-entries.ensures.sound here is) in
    let arg : c.negated.result ≡ negated e.lit = c.negated.ensures ∙ ap (λ (x : Entry). negated x.lit) (sym c.index-entries-place.is) in
    omega (arith, over, arg, c.requires.places)

pub places-preserved : goal.places-preserved
places-preserved c =
    let e = c.index-entries-place.result in
    let here : c.places.place < length c.args.trail.now.entries = omega (arith, c.places.invariant.within, c.requires.within) in
    let is : e ≡ get_or c.args.trail.now.entries c.places.place e = entry_is c.entries-entries.result.now c.args.trail.now.entries c.places.place e c.entries-entries.ensures.value c.index-entries-place.is in
    let arg : c.negated.result ≡ negated e.lit = c.negated.ensures ∙ ap (λ (x : Entry). negated x.lit) (sym c.index-entries-place.is) in
    let off : has c.args.marks.now.lits (negated e.lit) ≡ false = ap (has c.args.marks.now.lits) (sym arg) ∙ sym c.holds.ensures.value ∙ c.places-test.true in
    let one : 1 ≡ marked_at c.args.marks.now.lits c.args.trail.now.level (take c.places.place c.args.trail.now.entries) =
    c.places.invariant.one ∙ marked_skip c.args.trail.now.entries c.args.marks.now.lits c.args.trail.now.level c.places.place e here is off in
    let some : 0 < c.places.place = some_left c.args.trail.now.entries c.args.marks.now.lits c.args.trail.now.level c.places.place one in
    let back : c.places.place ≡ c.places.place - 1 + 1 = omega arith in
    record {
      within = omega (arith, c.places.invariant.within);
      one = subst (λ k. 1 ≡ marked_at c.args.marks.now.lits c.args.trail.now.level (take k c.args.trail.now.entries)) back one;
      at = λ known hints h. subst (IsAt known c.args.trail.now.entries c.args.marks.now.lits hints c.args.trail.now.level 1) back
          (at_skip known c.args.trail.now.entries c.args.marks.now.lits hints c.args.trail.now.level 1 c.places.place e here is off (c.places.invariant.at known hints h));
    }

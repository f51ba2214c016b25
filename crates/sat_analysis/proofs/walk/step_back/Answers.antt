use Rattle.std.proofs.Common.{◌≡◌, ◌+◌, ◌-◌, Some, true, false, [], get_or, sym, ap, ◌∙◌, arith}
use Rattle.cnf_core.specs.Literal.{negated, IsOver}
use Rattle.sat_watch.specs.Literals.{has}
use Rattle.sat_watch.proofs.LiteralLemmas.{over_negated}
use Rattle.sat_analysis.specs.Walk.{IsAt}
use Rattle.sat_analysis.proofs.Marking.{adds_same}
use Rattle.sat_analysis.proofs.Steps.{entry_over, entry_is, at_skip, stepped_some, stepped_none, pending_few}
use Rattle.sat_analysis.proofs.walk.step_back.Goals as goal

pub holds-requires : goal.holds-requires
holds-requires g c =
    let e = c.index-entries-place.result in
    let is : e ≡ get_or c.args.trail.now.entries c.args.place e = entry_is c.entries.result.now c.args.trail.now.entries c.args.place e c.entries.ensures.value c.index-entries-place.is in
    let over : IsOver c.args.trail.now.vars (negated e.lit) = over_negated c.args.trail.now.vars e.lit (entry_over c.args.trail.now c.args.place e c.entries.ensures.sound c.requires.1.1.0 is) in
    omega (arith, over, c.negated.ensures, c.requires.1.0)

pub returns-then-not-holds-clause-at : goal.returns-then-not-holds-clause-at
returns-then-not-holds-clause-at g c =
    let e = c.index-entries-place.result in
    let is : e ≡ get_or c.args.trail.now.entries c.args.place e = entry_is c.entries.result.now c.args.trail.now.entries c.args.place e c.entries.ensures.value c.index-entries-place.is in
    let off : has c.args.marks.now.lits (negated e.lit) ≡ false = ap (has c.args.marks.now.lits) (sym c.negated.ensures) ∙ sym c.holds.ensures.value ∙ c.if-not-holds.true in
    at_skip g.known c.args.trail.now.entries c.args.marks.now.lits c.args.hints.now.items c.args.trail.now.level c.args.pending c.args.place e c.requires.1.1.0 is off c.requires.1.1.1.1.1

pub returns-in_ok-more-in-Some-clause-at : goal.returns-in_ok-more-in-Some-clause-at
returns-in_ok-more-in-Some-clause-at g c =
    let e = c.index-entries-place.result in
    let is : e ≡ get_or c.args.trail.now.entries c.args.place e = entry_is c.entries.result.now c.args.trail.now.entries c.args.place e c.entries.ensures.value c.index-entries-place.is in
    let on : has c.args.marks.now.lits (negated e.lit) ≡ true = ap (has c.args.marks.now.lits) (sym c.negated.ensures) ∙ sym c.holds.ensures.value ∙ c.if-not-holds.false in
    rw c.in_ok-push-in-Some.ensures.items
    (stepped_some g.known c.args.watches.now c.args.trail.now c.args.notes.now c.args.marks.now.lits c.mark_clause.new.marks.lits c.args.hints.now.items c.args.pending c.in_ok-more-in-Some.more c.args.place c.in-Some.clause c.index.result.now e
    c.requires.0 c.entries.ensures.sound c.requires.1.1.0 is on c.requires.1.1.1.0 c.in-Some.is c.in_ok-more-in-Some.ensures.once c.index.ensures
    (adds_same c.deref.result.now c.args.notes.now.levels.items c.lits-lits.result.now (get_or c.args.watches.now.clauses c.in-Some.clause []) (Some e.lit) c.level.result c.args.trail.now.level c.args.marks.now.lits
    c.mark_clause.new.marks.lits c.in_ok-more-in-Some.more c.deref.ensures.value c.lits-lits.ensures.value c.level.ensures c.in_ok-more-in-Some.ensures.adds)
    c.requires.1.1.1.1.1)

pub overflow_add-result : goal.overflow_add-result
overflow_add-result g c =
    let at : IsAt g.known c.args.trail.now.entries c.mark_clause.new.marks.lits c.push.new.self.items c.args.trail.now.level (c.args.pending - 1 + c.in_ok-more-in-Some.more) c.args.place = returns-in_ok-more-in-Some-clause-at g c in
    omega (arith, pending_few g.known c.args.trail.now.entries c.mark_clause.new.marks.lits c.push.new.self.items c.args.trail.now.level (c.args.pending - 1 + c.in_ok-more-in-Some.more) c.args.place at, c.ranges.place.fits)

pub returns-in_ok-push-in-None-clause-at : goal.returns-in_ok-push-in-None-clause-at
returns-in_ok-push-in-None-clause-at g c =
    let e = c.index-entries-place.result in
    let is : e ≡ get_or c.args.trail.now.entries c.args.place e = entry_is c.entries.result.now c.args.trail.now.entries c.args.place e c.entries.ensures.value c.index-entries-place.is in
    let on : has c.args.marks.now.lits (negated e.lit) ≡ true = ap (has c.args.marks.now.lits) (sym c.negated.ensures) ∙ sym c.holds.ensures.value ∙ c.if-not-holds.false in
    rw c.in_ok-push-in-None.ensures.items
    (stepped_none g.known c.args.watches.now c.args.trail.now c.args.notes.now c.args.marks.now.lits c.args.hints.now.items c.args.pending c.args.place c.var.result c.index-in-None.result.now e
    c.requires.0 c.entries.ensures.sound c.requires.1.1.0 is on c.requires.1.1.1.0 c.requires.1.1.1.1.0 c.in-None.is c.if-not-holds.ensures.once c.var.ensures.value c.index-in-None.ensures c.requires.1.1.1.1.1)

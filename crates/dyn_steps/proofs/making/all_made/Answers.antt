use Rattle.std.proofs.Common.{ap, sym, ◌∙◌, arith}
use Rattle.std.specs.Prelude.{is_some, slice_get}
use Rattle.std.specs.List.{list_all}
use Rattle.std.proofs.lemmas.Bool.{lt-ltb}
use Rattle.rel_core.specs.Uses.{AsSet, is_variable}
use Rattle.dyn_steps.proofs.Combining.{both_of}
use Rattle.dyn_steps.proofs.Made.{made_of}
use Rattle.dyn_steps.proofs.making.all_made.Goals as goal

pub returns-clause-meaning : goal.returns-clause-meaning
returns-clause-meaning c = λ m.
    c.in_ok-all.ensures.meaning m
    ∙ both_of _ _ _ _
    (c.in_ok-heap.ensures.meaning m ∙ both_of _ _ _ _ (c.in_ok-object.ensures.meaning m) (c.in_ok-classes.ensures.meaning m))
    (c.in_ok-cells.ensures.meaning m)
    ∙ made_of m c.args.basis.problem.now c.args.from.now.at c.args.from.now.next c.args.target c.args.class c.args.fields.now _ _ c.slot-variable.ensures c.fields_of-declared.ensures

pub returns-clause-sorted : goal.returns-clause-sorted
returns-clause-sorted c = λ kinds variable known.
    let p = c.args.basis.problem.now in
    let low = c.well_posed.ensures.scope.scope.objects_low in
    let below = lt-ltb 0 p.scope.objects (omega (arith, low)) in
    let target = ap (is_variable p kinds AsSet) c.slot-variable.ensures ∙ variable in
    c.in_ok-all.ensures.sorted p kinds
    (c.in_ok-heap.ensures.sorted p kinds (c.in_ok-object.ensures.sorted kinds target) (c.in_ok-classes.ensures.sorted p kinds below target))
    (c.in_ok-cells.ensures.sorted p kinds (sym c.fields_of-declared.ensures)
    (ap (λ ds. list_all (λ f. is_some (slice_get ds f)) c.args.fields.now) c.fields_of-declared.ensures ∙ known) below target)

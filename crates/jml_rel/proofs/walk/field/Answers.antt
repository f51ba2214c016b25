use Rattle.std.proofs.Common.{rules}
use Rattle.std.proofs.Common.{◌≡◌, sym, subst, Some, None}
use Rattle.std.specs.Prelude.{slice_get}
use Rattle.heap_core.specs.Heap.{field}
use Rattle.heap_core.specs.Outcomes.{with_value}
use Rattle.rel_core.proofs.Read.{heaps_are_read}
use Rattle.clause_terms.specs.Terms.{Tells}
use Rattle.clause_terms.proofs.Lacking.{other_fields_are_lacking}
use Rattle.jml_rel.proofs.Forms.{field_spread}
use Rattle.jml_rel.proofs.walk.field.Goals as goal

pub returns-in_ok-term-in-Some-clause-told : goal.returns-in_ok-term-in-Some-clause-told
returns-in_ok-term-in-Some-clause-told c env m x shown told =
    let there : slice_get c.args.place.problem.now.unit.fields c.args.number ≡ Some c.in-Some.declared.now = search (rules, c.in-Some.ensures) in
    subst (λ cs. Tells (with_value x (field cs env.heap c.args.number)) c.in_ok-term-in-Some.term m) (sym shown.classes)
    (c.in_ok-term-in-Some.ensures.told c.args.place.problem.now.unit m env.heap x
    ((heaps_are_read c.args.place.problem.now.unit m c.args.place.heap.now env.heap c.well_posed.ensures.unit shown.heap).fields c.args.number c.in-Some.declared.now there) told)

pub returns-in_ok-term-in-Some-clause-sorted : goal.returns-in_ok-term-in-Some-clause-sorted
returns-in_ok-term-in-Some-clause-sorted c kinds operand =
    let there : slice_get c.args.place.problem.now.unit.fields c.args.number ≡ Some c.in-Some.declared.now = search (rules, c.in-Some.ensures) in
    c.in_ok-term-in-Some.ensures.sorted c.args.place.problem.now kinds operand (field_spread c.args.place.problem.now kinds c.args.place.heap.now c.args.number c.in-Some.declared.now there)

pub returns-in_ok-term-in-None-clause-told : goal.returns-in_ok-term-in-None-clause-told
returns-in_ok-term-in-None-clause-told c env m x shown told =
    let there : slice_get c.args.place.problem.now.unit.fields c.args.number ≡ None = search (rules, c.in-None.ensures) in
    subst (λ cs. Tells (with_value x (field cs env.heap c.args.number)) c.in_ok-term-in-None.term m) (sym shown.classes)
    (c.in_ok-term-in-None.ensures.told c.args.place.problem.now.unit.classes m env.heap c.args.number x
    (other_fields_are_lacking c.args.place.problem.now.unit m c.args.place.heap.now env.heap c.args.number c.well_posed.ensures.unit shown.heap there) told)

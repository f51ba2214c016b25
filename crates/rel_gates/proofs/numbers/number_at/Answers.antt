-- The bits at the only object.
use Rattle.std.proofs.Common.{subst, arith}
use Rattle.gate_core.specs.Circuit.{IsOf}
use Rattle.gate_sets.specs.Lists.{AreTruths}
use Rattle.gate_sets.specs.Shapes.{joined_only}
use Rattle.heap_core.specs.Posed.{Posed}
use Rattle.rel_gates.proofs.NumberForms.{at_number_is}
use Rattle.rel_gates.proofs.numbers.number_at.Goals as goal

pub returns-clause-number : goal.returns-clause-number
returns-clause-number c = λ e are.
    let p = c.args.problem.now in
    let middle = c.args.gates.now in
    let new = c.at_only.new.gates in
    let set = c.args.set.now in
    let rows = c.gates_for-rows.result.now in
    let places = c.in_ok-bits.bits.items in
    let inside = c.problem.inside.scope.objects in
    let first = c.requires.set 0 0 (omega (arith, c.requires.wide)) in
    let some : IsOf middle 0 = omega (arith, first) in
    let low = c.well_posed.ensures.scope.scope.ints_low in
    at_number_is p c.args.relations.now middle new e c.args.relation set rows places c.constant.result (omega (arith, low)) are c.gates_for-rows.ensures c.requires.stand some
    c.in_ok-bits.ensures.keeps
    (subst (λ (q : Posed). AreTruths new q.scope.ints (λ inputs i. joined_only q.scope.objects q.scope.ints middle set rows inputs i) places) c.problem.view_is
    (subst (λ w. AreTruths new w (λ inputs i. joined_only inside w middle set rows inputs i) places) c.from-width.ensures c.in_ok-bits.ensures.found))
    (record { of = c.constant.ensures.of; value_is = c.constant.ensures.value })

-- The only gate of the row that the only object chooses.
use Rattle.std.proofs.Common.{◌≡◌, ◌*◌, length, sym, subst, arith}
use Rattle.gate_core.specs.Circuit.{IsOf}
use Rattle.gate_sets.specs.Lists.{AreTruths}
use Rattle.gate_sets.specs.Shapes.{joined_only}
use Rattle.heap_core.specs.Posed.{Posed}
use Rattle.rel_gates.proofs.OfSets.{named_count}
use Rattle.rel_gates.proofs.AtOnly.{flag_at_truth}
use Rattle.rel_gates.proofs.truths.flag_at_gate.Goals as goal

pub at_only-requires-clause-long : goal.at_only-requires-clause-long
at_only-requires-clause-long c =
    let rows = c.gates_for-rows.result.now in
    let p = c.args.problem.now in
    subst (λ (q : Posed). length rows ≡ q.scope.objects * 1) (sym c.problem.view_is)
    (named_count c.args.relations.now c.args.relation (p.scope.objects * 1) rows c.requires.named c.gates_for-rows.ensures)

pub returns-clause-flag : goal.returns-clause-flag
returns-clause-flag c = λ e are.
    let p = c.args.problem.now in
    let old = c.args.gates.now in
    let new = c.at_only.new.gates in
    let rows = c.gates_for-rows.result.now in
    let places = c.in_ok-places.places.items in
    let first = c.requires.set 0 0 (omega (arith, c.requires.wide)) in
    let some : IsOf old 0 = omega (arith, first) in
    flag_at_truth p c.args.relations.now old new e c.args.relation c.args.set.now rows places c.index-gate.result.now are c.gates_for-rows.ensures c.requires.stand some
    c.in_ok-places.ensures.keeps
    (subst (λ (q : Posed). AreTruths new 1 (λ inputs i. joined_only q.scope.objects 1 old c.args.set.now rows inputs i) places) c.problem.view_is
    c.in_ok-places.ensures.found) c.index-gate.ensures

-- The relation's edges are put to the others.
use Rattle.std.proofs.Common.{◌≡◌, ◌+◌, ◌*◌, ◌<◌, length, sym, subst, arith}
use Rattle.std.proofs.lemmas.Nat.{mul-lt}
use Rattle.gate_core.specs.Circuit.{IsOf}
use Rattle.gate_sets.specs.Lists.{AreRows}
use Rattle.gate_sets.specs.Shapes.{led_edges}
use Rattle.heap_core.specs.Posed.{Posed}
use Rattle.rel_gates.proofs.OfSets.{named_count}
use Rattle.rel_gates.proofs.OfGraphs.{edges_more}
use Rattle.rel_gates.proofs.members.led_once.Goals as goal

pub led-requires-clause-long : goal.led-requires-clause-long
led-requires-clause-long c =
    let rows = c.gates_for-rows.result.now in
    let p = c.args.problem.now in
    subst (λ (q : Posed). length rows ≡ q.scope.objects * (q.scope.objects + 1)) (sym c.problem.view_is)
    (named_count c.args.relations.now c.args.relation (p.scope.objects * (p.scope.objects + 1)) rows c.requires.named c.gates_for-rows.ensures)

pub returns-clause-led : goal.returns-clause-led
returns-clause-led c = λ rs edges.
    let p = c.args.problem.now in
    let old = c.args.gates.now in
    let new = c.led.new.gates in
    let graph = c.args.graph.now in
    let rows = c.gates_for-rows.result.now in
    let next = c.in_ok-next.next.items in
    let low = c.well_posed.ensures.scope.scope.objects_low in
    let first = c.requires.graph 0 0 (subst (λ n. 0 < n) (sym c.requires.square) (mul-lt 0 0 p.scope.objects p.scope.objects (omega (arith, low)) (omega (arith, low)))) in
    let some : IsOf old 0 = omega (arith, first) in
    edges_more p c.args.relations.now old new rs c.args.relation graph rows next edges c.gates_for-rows.ensures c.requires.stand some c.in_ok-next.ensures.keeps
    (subst (λ (q : Posed). AreRows new q.scope.objects q.scope.objects (λ inputs a o. led_edges q.scope.objects old graph rows inputs a o) next) c.problem.view_is c.in_ok-next.ensures.led)

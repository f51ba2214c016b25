-- The relation has a row for each object.
use Rattle.std.proofs.Common.{◌≡◌, ◌+◌, ◌*◌, length, sym, subst, arith}
use Rattle.gate_core.specs.Circuit.{IsOf}
use Rattle.gate_sets.specs.Lists.{AreTruths}
use Rattle.gate_sets.specs.Shapes.{joined_set}
use Rattle.heap_core.specs.Posed.{Posed}
use Rattle.rel_gates.proofs.OfSets.{named_count, join_members}
use Rattle.rel_gates.proofs.members.joined_set.Goals as goal

pub join-requires-clause-long : goal.join-requires-clause-long
join-requires-clause-long c =
    let rows = c.gates_for-rows.result.now in
    let p = c.args.problem.now in
    subst (λ (q : Posed). length rows ≡ q.scope.objects * (q.scope.objects + 1)) (sym c.problem.view_is)
    (named_count c.args.relations.now c.args.relation (p.scope.objects * (p.scope.objects + 1)) rows c.requires.named c.gates_for-rows.ensures)

pub returns-clause-joined : goal.returns-clause-joined
returns-clause-joined c = λ e are.
    let p = c.args.problem.now in
    let old = c.args.gates.now in
    let new = c.join.new.gates in
    let set = c.args.set.now in
    let rows = c.gates_for-rows.result.now in
    let places = c.in_ok-places.places.items in
    let first = c.requires.set 0 0 (omega (arith, c.requires.wide)) in
    let some : IsOf old 0 = omega (arith, first) in
    join_members p c.args.relations.now old new e c.args.relation set rows places are c.gates_for-rows.ensures c.requires.stand some c.in_ok-places.ensures.keeps
    (subst (λ (q : Posed). AreTruths new (q.scope.objects + 1) (λ inputs i. joined_set q.scope.objects old set rows inputs i) places) c.problem.view_is c.in_ok-places.ensures.joined)

-- What is reached along the edges of the relations.
use Rattle.std.proofs.Common.{◌+◌, subst, arith}
use Rattle.gate_core.specs.Circuit.{IsOf}
use Rattle.gate_sets.specs.Lists.{AreTruths}
use Rattle.gate_sets.specs.Shapes.{reached_set}
use Rattle.heap_core.specs.Posed.{Posed}
use Rattle.rel_gates.proofs.OfGraphs.{reached_members}
use Rattle.rel_gates.proofs.members.reached_set.Goals as goal

pub returns-clause-reached : goal.returns-clause-reached
returns-clause-reached c = λ e are.
    let p = c.args.problem.now in
    let old = c.args.gates.now in
    let middle = c.graph_of.new.gates in
    let new = c.reached.new.gates in
    let set = c.args.set.now in
    let graph = c.in_ok-graph.graph.items in
    let places = c.in_ok-places.places.items in
    let first = c.requires.set 0 0 (omega (arith, c.requires.wide)) in
    let some : IsOf old 0 = omega (arith, first) in
    reached_members p c.args.relations.now old middle new e c.args.list.now set graph places are c.in_ok-graph.ensures.graph c.requires.stand some
    c.in_ok-graph.ensures.keeps c.in_ok-places.ensures.keeps
    (subst (λ (q : Posed). AreTruths new (q.scope.objects + 1) (λ inputs i. reached_set q.scope.objects middle set graph inputs i) places) c.problem.view_is
    (subst (λ gs. AreTruths new (c.problem.inside.scope.objects + 1) (λ inputs i. reached_set c.problem.inside.scope.objects middle set gs inputs i) places)
    c.deref.ensures.value c.in_ok-places.ensures.reached))

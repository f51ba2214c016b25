use Rattle.std.proofs.Common.{ap}
use Rattle.heap_core.specs.Posed.{Posed}
use Rattle.tuple_sets.proofs.Passing.{read_is}
use Rattle.tuple_sets.proofs.Walking.{object_room, object_passed}
use Rattle.tuple_sets.proofs.occurring.Walk.pass_field.Goals as goal

pub pass-requires-clause-within : goal.pass-requires-clause-within
pass-requires-clause-within c =
    let p = c.args.problem.now in
    let s = c.args.start.now in
    let same = ap (λ (q : Posed). q.scope.objects) c.problem.view_is in
    let held = read_is p s c.problem.inside.unit.classes c.as_slice-heap.result.now c.args.field c.loop-object.object c.read.result (ap (λ (q : Posed). q.unit.classes) c.problem.view_is) c.as_slice-heap.ensures c.read.ensures in
    object_room p s c.problem.inside.scope.objects same c.args.field c.loop-object.object c.loop-object.self.next c.requires.0 c.loop-object.self.set c.read.result c.loop-object-test.true held (c.loop-object.invariant c.requires.0 c.requires.1)

pub loop-object-preserved : goal.loop-object-preserved
loop-object-preserved c = λ rest first.
    let p = c.args.problem.now in
    let s = c.args.start.now in
    let same = ap (λ (q : Posed). q.scope.objects) c.problem.view_is in
    let held = read_is p s c.problem.inside.unit.classes c.as_slice-heap.result.now c.args.field c.loop-object.object c.read.result (ap (λ (q : Posed). q.unit.classes) c.problem.view_is) c.as_slice-heap.ensures c.read.ensures in
    object_passed p s c.problem.inside.scope.objects same c.args.field c.loop-object.object c.loop-object.self.next rest c.loop-object.self.set c.read.result c.loop-object-test.true held (c.loop-object.invariant rest first) c.pass.new.self.next c.pass.new.self.set c.pass.ensures.set c.pass.ensures.next

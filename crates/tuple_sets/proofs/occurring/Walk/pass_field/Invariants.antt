use Rattle.std.proofs.Common.{◌++◌, List}
use Rattle.canonical_order.specs.declared.tuple.Tuple.{Tuple}
use Rattle.tuple_sets.specs.Passing.{IsSetBefore, tuples_of_field}
use Rattle.tuple_sets.proofs.Walking.{objects_left}
use Rattle.tuple_sets.proofs.occurring.Walk.pass_field.Given as goal

abbrev pub invariant-loop-object : goal.invariant-loop-object
invariant-loop-object l =
    (rest : List Tuple)
    → IsSetBefore l.problem l.start l.initial.self.next (tuples_of_field l.problem.scope.objects l.field ++ rest) l.initial.self.set
    → IsSetBefore l.problem l.start l.self.next (objects_left l.problem l.field l.object l.objects rest) l.self.set

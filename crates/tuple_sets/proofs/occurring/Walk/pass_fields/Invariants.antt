use Rattle.tuple_sets.specs.Passing.{IsSetBefore}
use Rattle.tuple_sets.proofs.Walking.{fields_left}
use Rattle.tuple_sets.proofs.occurring.Walk.pass_fields.Given as goal

abbrev pub invariant-loop-field : goal.invariant-loop-field
invariant-loop-field l = IsSetBefore l.problem l.start l.self.next (fields_left l.problem l.field l.count) l.self.set

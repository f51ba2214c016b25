use Rattle.tuple_sets.specs.Passing.{IsSetBefore}
use Rattle.tuple_sets.proofs.Walking.{roots_left}
use Rattle.tuple_sets.proofs.occurring.Walk.pass_roots.Given as goal

abbrev pub invariant-loop-root : goal.invariant-loop-root
invariant-loop-root l = IsSetBefore l.problem l.start l.self.next (roots_left l.problem l.method l.root l.count) l.self.set

use Rattle.std.proofs.Common.{◌≡◌, ◌<◌, true, ◌&&◌, drop, length}
use Rattle.std.specs.Prelude.{nat_lt, IsTrue}
use Rattle.std.specs.List.{list_all}
use Rattle.heap_core.specs.Heap.{Heap}
use Rattle.rel_core.specs.Reading.{Reading}
use Rattle.rel_core.specs.Meaning.{holds}
use Rattle.rel_core.specs.Uses.{Kinds, is_sorted}
use Rattle.jml_rel.specs.Clauses.{ShowsPosedHeap}
use Rattle.jml_rel.specs.Asked.{are_answered}
use Rattle.jml_rel.proofs.invariants.of_invariants.Given as goal

abbrev pub invariant-loop-clause : goal.invariant-loop-clause
invariant-loop-clause l = record {
  told : (m : Reading) (heap : Heap) → ShowsPosedHeap l.problem m l.at heap → l.object < length heap
      → (list_all (λ a. holds a m) l.parts && are_answered l.asked l.problem heap l.object (drop l.clause-index l.clauses)) ≡ are_answered l.asked l.problem heap l.object l.clauses;
  sorted : (kinds : Kinds) → IsTrue (nat_lt l.object l.problem.scope.objects) → list_all (is_sorted l.problem kinds) l.parts ≡ true;
}

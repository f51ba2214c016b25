use Rattle.std.proofs.Common.{◌≡◌, true}
use Rattle.std.specs.List.{list_all}
use Rattle.heap_core.specs.Heap.{Heap}
use Rattle.rel_core.specs.Reading.{Reading, numbers_below}
use Rattle.rel_core.specs.Meaning.{holds}
use Rattle.rel_core.specs.Uses.{Kinds, is_sorted}
use Rattle.jml_rel.specs.Clauses.{ShowsPosedHeap}
use Rattle.jml_rel.specs.Asked.{object_passes}
use Rattle.jml_rel.proofs.heaps.of_heap.Given as goal

abbrev pub invariant-loop-object : goal.invariant-loop-object
invariant-loop-object l = record {
  told : (m : Reading) (heap : Heap) → ShowsPosedHeap l.problem m l.at heap
      → list_all (λ a. holds a m) l.parts ≡ list_all (object_passes l.asked l.problem heap) (numbers_below l.object);
  sorted : (kinds : Kinds) → list_all (is_sorted l.problem kinds) l.parts ≡ true;
}

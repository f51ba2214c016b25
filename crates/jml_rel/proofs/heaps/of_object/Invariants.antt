use Rattle.std.proofs.Common.{◌≡◌, true, not, ◌||◌}
use Rattle.std.specs.Prelude.{nat_lt, slice_get, IsTrue}
use Rattle.std.specs.Option.{option_map_or}
use Rattle.std.specs.List.{list_all}
use Rattle.heap_core.specs.Heap.{Heap, is_of}
use Rattle.rel_core.specs.Reading.{Reading, numbers_below}
use Rattle.rel_core.specs.Meaning.{holds}
use Rattle.rel_core.specs.Uses.{Kinds, is_sorted}
use Rattle.jml_rel.specs.Clauses.{ShowsPosedHeap}
use Rattle.jml_rel.specs.Asked.{class_passes}
use Rattle.jml_rel.proofs.heaps.of_object.Given as goal

abbrev pub invariant-loop-class : goal.invariant-loop-class
invariant-loop-class l = record {
  told : (m : Reading) (heap : Heap) → ShowsPosedHeap l.problem m l.at heap → IsTrue (nat_lt l.object m.objects)
      → list_all (λ a. holds a m) l.parts
      ≡ list_all (λ c. not (is_of heap c l.object) || option_map_or (class_passes l.asked l.problem heap l.object) (slice_get l.problem.unit.classes c) true) (numbers_below l.class);
  sorted : (kinds : Kinds) → IsTrue (nat_lt l.object l.problem.scope.objects) → list_all (is_sorted l.problem kinds) l.parts ≡ true;
}

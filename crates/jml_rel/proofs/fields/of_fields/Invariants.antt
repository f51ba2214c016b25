use Rattle.std.proofs.Common.{◌≡◌, true, not, ◌&&◌, drop}
use Rattle.std.specs.Prelude.{nat_lt, IsTrue}
use Rattle.std.specs.List.{list_all}
use Rattle.heap_core.specs.Heap.{Heap}
use Rattle.heap_core.specs.Judge.{is_missing}
use Rattle.rel_core.specs.Reading.{Reading}
use Rattle.rel_core.specs.Meaning.{holds}
use Rattle.rel_core.specs.Uses.{Kinds, is_sorted}
use Rattle.jml_rel.specs.Clauses.{ShowsPosedHeap}
use Rattle.jml_rel.proofs.fields.of_fields.Given as goal

abbrev pub invariant-loop-field : goal.invariant-loop-field
invariant-loop-field l = record {
  told : (m : Reading) (heap : Heap) → ShowsPosedHeap l.problem m l.at heap → IsTrue (nat_lt l.object m.objects)
      → (list_all (λ a. holds a m) l.parts && list_all (λ f. not (is_missing l.problem heap l.object f)) (drop l.field-index l.fields))
      ≡ list_all (λ f. not (is_missing l.problem heap l.object f)) l.fields;
  sorted : (kinds : Kinds) → IsTrue (nat_lt l.object l.problem.scope.objects) → list_all (is_sorted l.problem kinds) l.parts ≡ true;
}

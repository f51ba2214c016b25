-- What is asked of the objects of a heap. (This project's own.)
use Rattle.std.specs.Prelude.{ℕ, Bool, true, not, ◌&&◌, List}
use Rattle.std.specs.List.{list_any, list_all}
use Rattle.taco_unit.specs.declared.unit.Clause.{Clause}
use Rattle.taco_unit.specs.declared.unit.ClassDef.{ClassDef}
use Rattle.heap_core.specs.declared.value.Seen.{Seen}
use Rattle.heap_core.specs.Outcomes.{is_out, is_true}
use Rattle.heap_core.specs.Posed.{Posed}
use Rattle.heap_core.specs.Heap.{Heap}
use Rattle.heap_core.specs.Eval.{eval}
use Rattle.heap_core.specs.Judge.{at_class, invariant_env, is_missing, numbers_of}
use Rattle.jml_rel.specs.declared.asked.Asked.{Asked}
use Rattle.jml_rel.specs.declared.asked.Asked.TheVariants as asked

-- an invariant is true; it is not Out
abbrev pub is_answered : Asked → Seen → Bool
is_answered asked.Good s = is_true s
is_answered asked.Inside s = not (is_out s)

-- so are these invariants of an object
abbrev pub are_answered : Asked → Posed → Heap → ℕ → List Clause → Bool
are_answered a p heap o = list_all (λ c. is_answered a (eval c.expr (invariant_env p heap o)))

-- no field of these is null that must not be
abbrev pub are_given : Posed → Heap → ℕ → List ℕ → Bool
are_given p heap o fs = not (list_any (is_missing p heap o) fs)

-- what is asked of an object of this class
abbrev pub class_passes : Asked → Posed → Heap → ℕ → ClassDef → Bool
class_passes asked.Good p heap o d = are_given p heap o d.fields && are_answered asked.Good p heap o d.invariants
class_passes asked.Inside p heap o d = are_answered asked.Inside p heap o d.invariants

-- what is asked of the object of this number, where the heap has it
abbrev pub object_passes : Asked → Posed → Heap → ℕ → Bool
object_passes a p heap o = at_class p heap o (class_passes a p heap o) true

-- what is asked of a heap
abbrev pub heap_passes : Asked → Posed → Heap → Bool
heap_passes a p heap = list_all (object_passes a p heap) (numbers_of heap)

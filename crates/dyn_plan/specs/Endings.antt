-- How executions of a well unit end: with whole objects, and with a result of its kind. (This project's own.)
use Rattle.std.specs.Prelude.{ℕ, ◌≤◌, length, Option, Some, None, IsTrue}
use Rattle.std.specs.List.{list_all}
use Rattle.taco_unit.specs.declared.kind.Kind.{Kind}
use Rattle.taco_unit.specs.declared.unit.MethodDef.{MethodDef}
use Rattle.taco_unit.specs.Well.{result_kind}
use Rattle.heap_core.specs.declared.value.Value.{Value}
use Rattle.heap_core.specs.declared.start.Start.{Start}
use Rattle.heap_core.specs.Posed.{Posed}
use Rattle.heap_core.specs.Heap.{Heap, is_of}
use Rattle.heap_core.specs.Exec.{Ends, Gives, Throws, Leaves}
use Rattle.heap_core.specs.Start.{has_kind, is_whole}

-- a heap that comes after another: its objects are whole, there are no more than the scope has, and each object of
-- the earlier one is in it, with its number and its class
pub record ComesAfter (p : Posed) (heap after : Heap) : Type 0 where
  pub whole : IsTrue (list_all (is_whole p.unit p.scope.ints after) after)
  pub few : length after ≤ p.scope.objects
  pub objects : (class o : ℕ) → IsTrue (is_of heap class o) → IsTrue (is_of after class o)

-- a value exactly where there is a kind, and then one of it
abbrev pub IsOfKind : ℕ → Heap → Option Kind → Option Value → Type 0
IsOfKind w heap (Some k) (Some v) = IsTrue (has_kind w heap k v)
IsOfKind w heap None None = Unit {0}
IsOfKind w heap _ _ = ⊥

-- an execution that ends within the scope ends in a heap that comes after that of the start, and gives a value exactly
-- where the method has a result, of its kind
abbrev pub EndsWhole : Posed → MethodDef → Start → Ends (Option Value) → Type 0
EndsWhole p d s (Gives v m) = ComesAfter p s.objects m.heap × IsOfKind p.scope.ints m.heap (result_kind d) v
EndsWhole p d s (Throws m) = ComesAfter p s.objects m.heap
EndsWhole p d s Leaves = Unit {0}

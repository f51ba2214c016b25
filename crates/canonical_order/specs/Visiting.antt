-- Going along the places of a start breadth first, each object is put behind a list where it is met for the
-- first time. (This project's own.)
use Rattle.std.specs.Prelude.{ℕ, nat_lt, ◌==◌, ◌&&◌, not, if◌then◌else◌, List, [], ◌∷◌, ◌++◌, length, fold, flat_map, slice_get, option_to_list}
use Rattle.std.specs.List.{list_any, range_with_len}
use Rattle.heap_core.specs.declared.value.Value.{Value}
use Rattle.heap_core.specs.declared.value.Value.TheVariants.{Obj}
use Rattle.heap_core.specs.declared.start.Start.{Start}
use Rattle.heap_core.specs.Heap.{Heap}
use Rattle.canonical_order.specs.Canonical.{cells_of}

-- of n objects those of a list were met: a value that is another of them puts it behind the list
abbrev pub with_value : ℕ → List ℕ → Value → List ℕ
with_value n order (Obj o) = if nat_lt o n && not (list_any (λ q. q == o) order) then order ++ o ∷ [] else order
with_value n order _ = order

-- after these values
abbrev pub with_values : ℕ → List ℕ → List Value → List ℕ
with_values n = fold (with_value n)

-- after the fields of the object at this place of the list
abbrev pub with_fields : Heap → List ℕ → ℕ → List ℕ
with_fields heap order place = with_values (length heap) order (flat_map (cells_of heap) (option_to_list (slice_get order place)))

-- after the receiver, the arguments, and the fields of each object of the list, which grows meanwhile
abbrev pub visited : Start → List ℕ
visited s = fold (with_fields s.objects) (with_values (length s.objects) [] (s.this ∷ s.args)) (range_with_len 0 (length s.objects))

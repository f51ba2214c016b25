-- The order in which the objects of a start are visited, breadth first. (This project's own; the TACO
-- article, "Symmetry Breaking", gives the purpose: of all numberings of one heap, one is kept.)
use Rattle.std.specs.Prelude.{◌≡◌, ℕ, ◌<◌, ◌==◌, List, ◌∷◌, ◌++◌, length, map, filter_map, flat_map, slice_get, Contains, Some, option_map, option_to_list}
use Rattle.std.specs.List.{range_with_len, position_or_len}
use Rattle.std.specs.List.Sorted.{IsStrictlyIncreasing}
use Rattle.heap_core.specs.declared.value.Value.{Value}
use Rattle.heap_core.specs.declared.value.Value.TheVariants.{Obj}
use Rattle.heap_core.specs.declared.value.Object.{Object}
use Rattle.heap_core.specs.declared.start.Start.{Start}
use Rattle.heap_core.specs.Outcomes.{is_object}
use Rattle.heap_core.specs.Heap.{Heap}

-- the list holds each number below n once, and nothing else
pub record HoldsEachOnce (order : List ℕ) (n : ℕ) : Type 0 where
  pub as_many : length order ≡ n
  pub within : (i o : ℕ) → slice_get order i ≡ Some o → o < n
  pub apart : (i j o : ℕ) → slice_get order i ≡ Some o → slice_get order j ≡ Some o → i ≡ j
  pub each : (o : ℕ) → o < n → Contains order o

-- the fields of an object of the heap, in declaration order; fields that hold no object do not matter, so
-- that all fields may be listed
abbrev pub cells_of : Heap → ℕ → List Value
cells_of heap o = flat_map (λ x. x.cells) (option_to_list (slice_get heap o))

-- the places of a start under a list of its objects: the receiver, the arguments in order, and then the
-- fields of each object, in the order of the list
abbrev pub places : Start → List ℕ → List Value
places s order = s.this ∷ (s.args ++ flat_map (cells_of s.objects) order)

-- the first place that holds an object
abbrev pub first_place : List Value → ℕ → ℕ
first_place at o = position_or_len (is_object o) at

-- the list is the visit of the start: it holds each object once, and along it the first place that holds
-- the object rises
pub record IsVisit (s : Start) (order : List ℕ) : Type 0 where
  pub each_once : HoldsEachOnce order (length s.objects)
  pub rising : IsStrictlyIncreasing (map (first_place (places s order)) order)

-- a start is canonical where its visit is 0, 1, 2 and so on
abbrev pub IsCanonical : Start → Type 0
IsCanonical s = IsVisit s (range_with_len 0 (length s.objects))

-- the object list[i] is given the number i
abbrev pub number_in : List ℕ → ℕ → ℕ
number_in order o = position_or_len (λ q. q == o) order

abbrev pub renamed : List ℕ → Value → Value
renamed order (Obj o) = Obj (number_in order o)
renamed order v = v

abbrev pub renamed_object : List ℕ → Object → Object
renamed_object order x = record x { cells = map (renamed order) x.cells }

-- the start under the numbering of a list that holds each object once
abbrev pub renumbered : Start → List ℕ → Start
renumbered s order = record {
  objects = filter_map (λ o. option_map (renamed_object order) (slice_get s.objects o)) order;
  this = renamed order s.this;
  args = map (renamed order) s.args;
}

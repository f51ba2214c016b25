-- The first broken part.
use Rattle.std.specs.Prelude.{ℕ, if◌then◌else◌, List, [], ◌∷◌, ◌++◌, filter_map, flat_map, slice_get, Option, Some, None}
use Rattle.std.specs.List.{enumerate_from}
use Rattle.heap_core.specs.declared.value.Value.{Value}
use Rattle.heap_core.specs.declared.value.Seen.{Seen}
use Rattle.heap_core.specs.declared.judged.Part.{Part}
use Rattle.heap_core.specs.declared.judged.Part.TheVariants as part
use Rattle.heap_core.specs.Outcomes.{is_true}
use Rattle.heap_core.specs.Heap.{Heap}
use Rattle.heap_core.specs.Posed.{Posed}
use Rattle.heap_core.specs.Judge.{not_true, lacks_result, broken_at, numbers_of}

-- the first item of a list
abbrev pub first : {A : Type 0} → List A → Option A
first xs = slice_get xs 0

-- the numbers of the values that are not true, where the first value has this number
abbrev pub untrue_from : ℕ → List Seen → List ℕ
untrue_from k vs = filter_map (λ e. if is_true e.1 then None else Some e.0) (enumerate_from k vs)

-- the broken parts, where these are the values of the `ensures` clauses
abbrev pub parts_of : Posed → List Seen → Option Value → Heap → List Part
parts_of p gives r heap =
    not_true part.Ensures gives ++ (if lacks_result p r then part.Result ∷ [] else []) ++ flat_map (broken_at p heap) (numbers_of heap)

-- How far a visit along the edges of a graph has come. (This project's own.)
use Rattle.std.specs.Prelude.{ℕ, Bool, true, false, if◌then◌else◌, List, ◌∷◌, length, slice_get, slice_set, slice_index_or, fold}
use Rattle.std.specs.List.{list_any}
use Rattle.std.specs.Option.{option_map_or}
use Rattle.heap_core.specs.declared.value.Value.{Value}
use Rattle.heap_core.specs.declared.value.Value.TheVariants.{Obj}
use Rattle.heap_core.specs.declared.start.Start.{Start}
use Rattle.heap_core.specs.declared.visit.Stage.{Stage}
use Rattle.heap_core.specs.declared.visit.Stage.TheVariants.{Unseen, Waiting, Done}
use Rattle.heap_core.specs.Outcomes.{is_object}
use Rattle.heap_core.specs.Heap.{Heap}
use Rattle.heap_core.specs.Closure.{Graph, closure}

abbrev pub is_unseen : Stage → Bool
is_unseen Unseen = true
is_unseen _ = false

abbrev pub is_waiting : Stage → Bool
is_waiting Waiting = true
is_waiting _ = false

abbrev pub is_done : Stage → Bool
is_done Done = true
is_done _ = false

-- the stage of the object of a number; one beyond the list has nothing to be visited
abbrev pub stage_of : List Stage → ℕ → Stage
stage_of stages o = slice_index_or stages o Done

-- the stages, after a value was come upon
abbrev pub found : List Stage → Value → List Stage
found stages (Obj o) = if is_unseen (stage_of stages o) then slice_set stages o Waiting else stages
found stages _ = stages

-- the stages, after these values were come upon
abbrev pub found_all : List Stage → List Value → List Stage
found_all = fold found

-- ## the graph of a start

-- a cell of object p holds object o
abbrev pub held : Heap → Graph
held heap p o = option_map_or (λ x. list_any (is_object o) x.cells) (slice_get heap p) false

-- object o is the receiver or an argument
abbrev pub given : Start → ℕ → Bool
given s o = list_any (is_object o) (s.this ∷ s.args)

-- an object is reached from the receiver or an argument along cells
abbrev pub is_reached : Start → ℕ → Bool
is_reached s = closure (held s.objects) (length s.objects) (given s)

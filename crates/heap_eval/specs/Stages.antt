-- What a visit of the objects of a `\reach` comes upon. (This project's own.)
use Rattle.std.specs.Prelude.{ℕ, List, fold}
use Rattle.taco_unit.specs.declared.unit.ClassDef.{ClassDef}
use Rattle.heap_core.specs.declared.value.Value.TheVariants.{Obj}
use Rattle.heap_core.specs.declared.value.Seen.{Seen}
use Rattle.heap_core.specs.declared.value.Seen.TheVariants.{Is}
use Rattle.heap_core.specs.declared.visit.Stage.{Stage}
use Rattle.heap_core.specs.Heap.{Heap, field}
use Rattle.heap_core.specs.Stages.{found}

-- the stages, after what an evaluation gives was come upon
abbrev pub found_in : List Stage → Seen → List Stage
found_in stages (Is v) = found stages v
found_in stages _ = stages

-- the stages, after what these fields of object o hold was come upon
abbrev pub found_along : List ClassDef → Heap → ℕ → List Stage → List ℕ → List Stage
found_along classes heap o = fold (λ stages f. found_in stages (field classes heap f (Obj o)))

-- A start's visit, read off its class-kind fields in the order of the unit. (This project's own.)
use Rattle.std.specs.Prelude.{◌↔◌, ℕ, List, ◌∷◌, ◌++◌, length, map, flat_map}
use Rattle.std.specs.List.{position_or_len}
use Rattle.std.specs.List.Sorted.{IsStrictlyIncreasing}
use Rattle.taco_unit.specs.Well.{IsWell}
use Rattle.heap_core.specs.declared.value.Value.TheVariants.{Obj}
use Rattle.heap_core.specs.declared.value.Seen.{Seen}
use Rattle.heap_core.specs.declared.value.Seen.TheVariants.{Is}
use Rattle.heap_core.specs.declared.start.Start.{Start}
use Rattle.heap_core.specs.Posed.{Posed}
use Rattle.heap_core.specs.Outcomes.{gives_object}
use Rattle.heap_core.specs.Heap.{Heap, field}
use Rattle.heap_core.specs.Start.{Fits}
use Rattle.canonical_order.specs.Canonical.{HoldsEachOnce, IsVisit}
use Rattle.canonical_order.specs.Tuples.{links_of}

-- what each class-kind field of the unit gives at an object: no object where its class does not declare the field
abbrev pub links_at : Posed → Heap → ℕ → List Seen
links_at p heap o = map (λ f. field p.unit.classes heap f (Obj o)) (links_of p.unit)

-- the receiver, the arguments in order, and then of each object in the order of the list what its class-kind fields give
abbrev pub link_places : Posed → Start → List ℕ → List Seen
link_places p s order = map Is (s.this ∷ s.args) ++ flat_map (links_at p s.objects) order

-- the first place that gives an object
abbrev pub first_link : List Seen → ℕ → ℕ
first_link at o = position_or_len (gives_object o) at

-- the list holds each object once, and along it the first place that gives the object rises
pub record IsVisitByLinks (p : Posed) (s : Start) (order : List ℕ) : Type 0 where
  pub each_once : HoldsEachOnce order (length s.objects)
  pub rising : IsStrictlyIncreasing (map (first_link (link_places p s order)) order)

-- of a start that fits, this is its visit
abbrev pub VisitsByLinks : Type 0
VisitsByLinks =
    (p : Posed) (s : Start) (order : List ℕ) → IsWell p.unit → Fits s p → IsVisit s order ↔ IsVisitByLinks p s order

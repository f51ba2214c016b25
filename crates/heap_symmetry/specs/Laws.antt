-- The laws, which contracts of this crate name: what the numbering of a heap's objects does not change.
use Rattle.std.specs.Prelude.{◌≡◌, ◌↔◌, ℕ, List, length, IsTrue}
use Rattle.heap_core.specs.declared.start.Start.{Start}
use Rattle.heap_core.specs.declared.judged.Part.{Part}
use Rattle.heap_core.specs.Posed.{Posed}
use Rattle.heap_core.specs.Start.{Fits}
use Rattle.heap_core.specs.Judge.{is_good, judged, Violates, Violable}
use Rattle.canonical_order.specs.declared.tuple.Tuple.{Tuple}
use Rattle.canonical_order.specs.declared.tuple.Tuple.TheVariants.{Root, Field}
use Rattle.canonical_order.specs.Canonical.{HoldsEachOnce, IsVisit, IsCanonical, number_in, renamed, renumbered}
use Rattle.canonical_order.specs.Tuples.{occurs, Possible}
use Rattle.heap_symmetry.specs.Kinds.{IsOfKind}

-- the two starts fit, both or none of the heaps is good, and the judgements are of one kind
pub record IsAlike (p : Posed) (s t : Start) : Type 0 where
  pub fits : Fits t p
  pub good : is_good p t.objects ≡ is_good p s.objects
  pub judged : IsOfKind (judged p s) (judged p t)

-- a start that fits is alike under every numbering of its objects
abbrev pub RenumberingKeeps : Type 0
RenumberingKeeps =
    (p : Posed) (s : Start) (order : List ℕ) → Fits s p → HoldsEachOnce order (length s.objects) → IsAlike p s (renumbered s order)

-- under exactly one numbering, that of its visit, it is canonical
abbrev pub CanonicalByVisit : Type 0
CanonicalByVisit =
    (p : Posed) (s : Start) (order : List ℕ) → Fits s p → HoldsEachOnce order (length s.objects) → IsCanonical (renumbered s order) ↔ IsVisit s order

-- exactly one renumbering is canonical: that by the visit
pub record IsRenumberedOnce (s : Start) : Type 0 where
  pub order : List ℕ
  pub each_once : HoldsEachOnce order (length s.objects)
  pub canonical : IsCanonical (renumbered s order)
  pub only : (other : List ℕ) → HoldsEachOnce other (length s.objects) → IsCanonical (renumbered s other) → other ≡ order

-- each start that fits has exactly one canonical renumbering
abbrev pub OneIsCanonical : Type 0
OneIsCanonical = (p : Posed) (s : Start) → Fits s p → IsRenumberedOnce s

-- a canonical start whose judgement is that a part is broken
abbrev pub CanonicallyViolable : Posed → Type 0
CanonicallyViolable p = (s : Start) × (b : Part) × IsCanonical s × Violates p s b

-- a method is violable exactly where a canonical start breaks its contract
abbrev pub CanonicalStartsDecide : Type 0
CanonicalStartsDecide = (p : Posed) → Violable p ↔ CanonicallyViolable p

-- a tuple under the new numbers
abbrev pub renamed_tuple : List ℕ → Tuple → Tuple
renamed_tuple order (Root r v) = Root r (renamed order v)
renamed_tuple order (Field f o v) = Field f (number_in order o) (renamed order v)

-- a tuple of a start that fits and whose heap is good is possible under the numbers of the visit
abbrev pub TuplesArePossible : Type 0
TuplesArePossible =
    (p : Posed) (s : Start) (order : List ℕ) (t : Tuple) → Fits s p → IsTrue (is_good p s.objects) → IsVisit s order → IsTrue (occurs p s t) → Possible p (renamed_tuple order t)

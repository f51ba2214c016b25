-- Laws of the definitions, which contracts of this crate name.
use Rattle.std.specs.Prelude.{◌≡◌, ℕ, List}
use Rattle.heap_core.specs.declared.start.Start.{Start}
use Rattle.heap_core.specs.Posed.{Posed}
use Rattle.heap_core.specs.Start.{Fits}
use Rattle.canonical_order.specs.Canonical.{IsVisit}

-- each start that fits has exactly one visit
abbrev pub EachHasOneVisit : Type 0
EachHasOneVisit =
    (s : Start) (p : Posed) → Fits s p → (order : List ℕ) × IsVisit s order × ((other : List ℕ) → IsVisit s other → other ≡ order)

-- Canonical starts: as their fields give the objects, and as readings show them. (This project's own.)
use Rattle.std.specs.Prelude.{◌↔◌, ℕ, ◌-◌, ◌<◌, ◌≤◌, false, length, IsTrue}
use Rattle.std.specs.List.{list_all, list_any, range_with_len}
use Rattle.std.specs.Option.{option_map_or}
use Rattle.std.specs.Cmp.Lexicographic.{pointwise}
use Rattle.taco_unit.specs.Well.{IsWell}
use Rattle.heap_core.specs.declared.start.Start.{Start}
use Rattle.heap_core.specs.Posed.{Posed}
use Rattle.heap_core.specs.Outcomes.{gives_object}
use Rattle.heap_core.specs.Start.{Fits, is_whole, is_receiver, is_argument, method_of}
use Rattle.canonical_order.specs.Canonical.{IsCanonical}
use Rattle.canonical_order.specs.Links.{link_places, first_link}
use Rattle.rel_core.specs.declared.formula.Formula.{Formula}
use Rattle.rel_core.specs.declared.indices.Indices.{Indices}
use Rattle.rel_core.specs.Reading.{Reading}
use Rattle.rel_core.specs.Meaning.{holds}
use Rattle.rel_core.specs.Shown.{ShowsStart, start_of}

-- ## canonical starts alone

-- all that a start needs to fit, but that every object is reached
pub record HasKinds (s : Start) (p : Posed) : Type 0 where
  pub few_objects : length s.objects ≤ p.scope.objects
  pub objects_whole : IsTrue (list_all (is_whole p.unit p.scope.ints s.objects) s.objects)
  pub receiver : IsTrue (option_map_or (λ m. is_receiver s.objects m.class m.fixed s.this) (method_of p) false)
  pub arguments : IsTrue (option_map_or (λ m. pointwise (is_argument p.scope.ints s.objects) m.params s.args) (method_of p) false)

-- a root, or a class-kind field of an object below j, gives object j; and of these places the first that gives the
-- object before it comes before the first that gives j
pub record IsGivenBelow (p : Posed) (s : Start) (j : ℕ) : Type 0 where
  pub given : IsTrue (list_any (gives_object j) (link_places p s (range_with_len 0 j)))
  pub after : 0 < j → first_link (link_places p s (range_with_len 0 j)) (j - 1) < first_link (link_places p s (range_with_len 0 j)) j

-- a start that fits and is canonical
pub record IsCanonicalOf (p : Posed) (s : Start) : Type 0 where
  pub fits : Fits s p
  pub canonical : IsCanonical s

-- of the starts whose values have their kinds, these fit and are canonical
abbrev pub CanonicalByLinks : Type 0
CanonicalByLinks =
    (p : Posed) (s : Start) → IsWell p.unit → HasKinds s p → IsCanonicalOf p s ↔ ((j : ℕ) → j < length s.objects → IsGivenBelow p s j)

-- ## canonical starts as readings show them

-- the reading shows the start at these indices, and the start fits and is canonical
pub record ShowsCanonical (p : Posed) (m : Reading) (at : Indices) (s : Start) : Type 0 where
  pub shown : ShowsStart p m at s
  pub is : IsCanonicalOf p s

-- under this reading the formula holds exactly where a canonical start is shown, which then is `start_of`
pub record SaysCanonical (p : Posed) (at : Indices) (f : Formula) (m : Reading) : Type 0 where
  pub shows : IsTrue (holds f m) → ShowsCanonical p m at (start_of p m at)
  pub says : (s : Start) → ShowsCanonical p m at s → IsTrue (holds f m)

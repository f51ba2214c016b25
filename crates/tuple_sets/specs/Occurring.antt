-- The tuples that occur in a start, as a set of numbers. (This project's own.)
use Rattle.std.specs.Prelude.{◌≡◌, ℕ, ◌↔◌, List, length, slice_get, Some, IsTrue}
use Rattle.heap_core.specs.declared.start.Start.{Start}
use Rattle.heap_core.specs.Posed.{Posed}
use Rattle.heap_core.specs.Start.{Fits}
use Rattle.heap_core.specs.Judge.{is_good}
use Rattle.canonical_order.specs.declared.tuple.Tuple.{Tuple}
use Rattle.canonical_order.specs.Canonical.{IsCanonical}
use Rattle.canonical_order.specs.Tuples.{tuples, occurs}
use Rattle.tuple_sets.specs.Words.{has}
use Rattle.tuple_sets.specs.Numbered.{word_count, IsPossible}

-- a tuple has this number and occurs in the start
abbrev pub OccursAt : Posed → Start → ℕ → Type 0
OccursAt p s t = (x : Tuple) × (slice_get (tuples p) t ≡ Some x) × IsTrue (occurs p s x)

-- the set has the numbers of the tuples that occur in the start, and no other number
pub record IsSetOf (p : Posed) (s : Start) (set : List ℕ) : Type 0 where
  pub as_many : length set ≡ word_count p
  pub exact : (t : ℕ) → (has set t ≡ 1) ↔ OccursAt p s t

-- a law: all tuples of a canonical start with a good heap are possible
abbrev pub GoodStartsArePossible : Type 0
GoodStartsArePossible =
    (p : Posed) (s : Start) (set : List ℕ)
    → Fits s p
    → IsCanonical s
    → IsTrue (is_good p s.objects)
    → IsSetOf p s set
    → (t : ℕ)
    → has set t ≡ 1
    → IsPossible p t

-- Tuples by their numbers in the tuple order. (This project's own.)
use Rattle.std.specs.Prelude.{◌≡◌, ℕ, List, length, slice_get, Some, IsTrue}
use Rattle.heap_core.specs.declared.start.Start.{Start}
use Rattle.heap_core.specs.Posed.{Posed}
use Rattle.canonical_order.specs.declared.tuple.Tuple.{Tuple}
use Rattle.canonical_order.specs.Tuples.{tuples, occurs, Possible, Shows}
use Rattle.tuple_sets.specs.Words.{has, words_for}

-- how many words the tuples of a problem have
abbrev pub word_count : Posed → ℕ
word_count p = words_for (length (tuples p))

-- the tuple of this number is possible
abbrev pub IsPossible : Posed → ℕ → Type 0
IsPossible p t = (x : Tuple) × (slice_get (tuples p) t ≡ Some x) × Possible p x

-- it is not: it occurs in no canonical start whose heap is good
abbrev pub IsImpossible : Posed → ℕ → Type 0
IsImpossible p t = ¬ IsPossible p t

-- all tuples that occur in the start are in the set
abbrev pub HasAll : Posed → List ℕ → Start → Type 0
HasAll p set s = (u : ℕ) (y : Tuple) → slice_get (tuples p) u ≡ Some y → IsTrue (occurs p s y) → has set u ≡ 1

-- no canonical start with a good heap, all of whose tuples are in the set, holds the tuple of this number
abbrev pub IsRefuted : Posed → List ℕ → ℕ → Type 0
IsRefuted p set t = (x : Tuple) (s : Start) → slice_get (tuples p) t ≡ Some x → Shows p x s → ¬ HasAll p set s

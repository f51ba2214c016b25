-- Heaps and starts that differ by the numbers of their objects alone. (This project's own; the TACO article,
-- "Symmetry Breaking", gives the purpose.)
use Rattle.std.specs.Prelude.{◌≡◌, ℕ, ◌≤◌, length, map, slice_get, option_map}
use Rattle.heap_core.specs.declared.value.Value.{Value}
use Rattle.heap_core.specs.declared.value.Value.TheVariants.{Obj}
use Rattle.heap_core.specs.declared.value.Object.{Object}
use Rattle.heap_core.specs.declared.value.Seen.{Seen}
use Rattle.heap_core.specs.declared.value.Seen.TheVariants.{Is}
use Rattle.heap_core.specs.declared.start.Start.{Start}
use Rattle.heap_core.specs.Heap.{Heap}

-- each number has another, and the two ways undo each other
pub record IsNaming (n m : ℕ → ℕ) : Type 0 where
  pub there : (o : ℕ) → n (m o) ≡ o
  pub back : (o : ℕ) → m (n o) ≡ o

-- a value, an object and an evaluation under the new numbers
abbrev pub value_as : (ℕ → ℕ) → Value → Value
value_as n (Obj o) = Obj (n o)
value_as n v = v

abbrev pub object_as : (ℕ → ℕ) → Object → Object
object_as n x = record x { cells = map (value_as n) x.cells }

abbrev pub seen_as : (ℕ → ℕ) → Seen → Seen
seen_as n (Is v) = Is (value_as n v)
seen_as n s = s

-- k is h under the new numbers; numbers past the heap are their own, so that new objects have the same number in both
pub record IsRenamed (n : ℕ → ℕ) (h k : Heap) : Type 0 where
  pub as_many : length k ≡ length h
  pub objects : (o : ℕ) → slice_get k (n o) ≡ option_map (object_as n) (slice_get h o)
  pub past : (o : ℕ) → length h ≤ o → n o ≡ o

-- t is s under the new numbers
pub record IsRenamedStart (n : ℕ → ℕ) (s t : Start) : Type 0 where
  pub heap : IsRenamed n s.objects t.objects
  pub this : t.this ≡ value_as n s.this
  pub args : t.args ≡ map (value_as n) s.args

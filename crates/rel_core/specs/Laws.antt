-- Laws of what readings show, which contracts of this crate name.
use Rattle.std.specs.Prelude.{◌≡◌, ℕ, pos, Bool, not, ◌&&◌, slice_get, Some, IsTrue, IsFalse}
use Rattle.std.specs.Ordering.{int_eq}
use Rattle.taco_unit.specs.declared.unit.FieldDef.{FieldDef}
use Rattle.taco_unit.specs.Parts.{Parts}
use Rattle.taco_unit.specs.Well.{IsWell}
use Rattle.heap_core.specs.declared.value.Value.TheVariants.{Null, Obj}
use Rattle.heap_core.specs.declared.value.Seen.TheVariants.{Bad, Out}
use Rattle.heap_core.specs.declared.start.Start.{Start}
use Rattle.heap_core.specs.Posed.{Posed, InRange}
use Rattle.heap_core.specs.Outcomes.{is_bad}
use Rattle.heap_core.specs.Heap.{Heap, is_of, field}
use Rattle.heap_core.specs.Start.{Fits}
use Rattle.rel_core.specs.declared.indices.Indices.{Indices}
use Rattle.rel_core.specs.Reading.{Reading}
use Rattle.rel_core.specs.Uses.{Kinds, IsOf, start_kinds}
use Rattle.rel_core.specs.Shown.{State, ShowsCell, ShowsHeap, ShowsState, ShowsStart, IsFirst, live_relation, class_relation, start_of}
use Rattle.rel_core.specs.States.{IsState, reading_of_state, reading_of_start}

-- a reading of the problem that shows the state at index 0
pub record StateIsShown (p : Posed) (kinds : Kinds) (s : State) (m : Reading) : Type 0 where
  pub of_problem : IsOf p kinds m
  pub shown : (at : Indices) → IsFirst at → ShowsState p.unit kinds m at s

-- each state within the scope is shown by its reading
abbrev pub StatesAreShown : Type 0
StatesAreShown =
    (p : Posed) (kinds : Kinds) (s : State) → IsWell p.unit → InRange p → IsState p kinds s → StateIsShown p kinds s (reading_of_state p kinds s)

-- a reading of the problem that shows the start at index 0
pub record StartIsShown (p : Posed) (s : Start) (m : Reading) : Type 0 where
  pub of_problem : IsOf p (slice_get (start_kinds p)) m
  pub shown : (at : Indices) → IsFirst at → ShowsStart p m at s

-- each start that fits is shown by its reading
abbrev pub StartsAreShown : Type 0
StartsAreShown = (p : Posed) (s : Start) → IsWell p.unit → InRange p → Fits s p → StartIsShown p s (reading_of_start p s)

-- whether the reading has the object, of this class
abbrev pub is_of_shown : Reading → Indices → ℕ → ℕ → Bool
is_of_shown m at c o = m.flag (live_relation at) o && int_eq (m.number (class_relation at) o) (pos c)

-- what a field gives in a heap that is shown: at null Bad, at an object Bad exactly where it is not there, a value
-- that is shown exactly where it is there and of the field's class, and else Out
pub record FieldIsShown (u : Parts) (m : Reading) (at : Indices) (heap : Heap) (f : ℕ) (d : FieldDef) : Type 0 where
  pub at_null : field u.classes heap f Null ≡ Bad
  pub missing : (o : ℕ) → is_bad (field u.classes heap f (Obj o)) ≡ not (m.flag (live_relation at) o)
  pub given : (o : ℕ) → IsTrue (is_of_shown m at d.class o) → ShowsCell u m at heap f d o
  pub other_class : (o : ℕ) → IsTrue (m.flag (live_relation at) o) → IsFalse (is_of_shown m at d.class o) → field u.classes heap f (Obj o) ≡ Out

-- which objects of which classes are there, and what each field gives
pub record HeapIsRead (u : Parts) (m : Reading) (at : Indices) (heap : Heap) : Type 0 where
  pub objects : (c o : ℕ) → is_of heap c o ≡ is_of_shown m at c o
  pub fields : (f : ℕ) (d : FieldDef) → slice_get u.fields f ≡ Some d → FieldIsShown u m at heap f d

-- each heap that is shown is read so
abbrev pub HeapsAreRead : Type 0
HeapsAreRead = (u : Parts) (m : Reading) (at : Indices) (heap : Heap) → IsWell u → ShowsHeap u m at heap → HeapIsRead u m at heap

-- a reading shows one start at most
abbrev pub StartsAreOne : Type 0
StartsAreOne =
    (p : Posed) (m : Reading) (at : Indices) (s : Start) → IsWell p.unit → InRange p → Fits s p → ShowsStart p m at s → s ≡ start_of p m at

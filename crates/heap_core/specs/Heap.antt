-- Heaps: lists of objects, numbered from 0. (Java Language Specification, "Objects", "Field Access
-- Expressions", "Class Instance Creation Expressions".)
use Rattle.std.specs.Prelude.{ℕ, ◌==◌, nat_lt, Bool, false, if◌then◌else◌, List, [], ◌∷◌, ◌++◌, length, map, slice_get, slice_set, position, Option, Some, None, option_map, option_and_then, is_some}
use Rattle.std.specs.Option.{option_map_or}
use Rattle.taco_unit.specs.declared.unit.ClassDef.{ClassDef}
use Rattle.taco_unit.specs.declared.unit.FieldDef.{FieldDef}
use Rattle.taco_unit.specs.Parts.{Parts}
use Rattle.heap_core.specs.declared.value.Value.{Value}
use Rattle.heap_core.specs.declared.value.Value.TheVariants.{Null, Obj}
use Rattle.heap_core.specs.declared.value.Object.{Object}
use Rattle.heap_core.specs.declared.value.Seen.{Seen}
use Rattle.heap_core.specs.declared.value.Seen.TheVariants.{Bad, Out}
use Rattle.heap_core.specs.Posed.{Posed}
use Rattle.heap_core.specs.Outcomes.{zero_of, value_in}

abbrev pub Heap : Type 0
Heap = List Object

-- the heap has the object of this number, and it is of the class
abbrev pub is_of : Heap → ℕ → ℕ → Bool
is_of heap class o = option_map_or (λ x. x.class == class) (slice_get heap o) false

-- the class of the object of this number, where the heap has it
abbrev pub class_at : Heap → ℕ → Option ℕ
class_at heap o = option_map (λ x. x.class) (slice_get heap o)

-- the place of a field among the cells of the objects of a class
abbrev pub place_of : List ClassDef → ℕ → ℕ → Option ℕ
place_of classes class f = option_and_then (λ d. position (λ g. g == f) d.fields) (slice_get classes class)

-- the class declares the field
abbrev pub declares : List ClassDef → ℕ → ℕ → Bool
declares classes class f = is_some (place_of classes class f)

-- the value of a field of an object
abbrev pub cell : List ClassDef → ℕ → Object → Option Value
cell classes f x = option_and_then (λ i. slice_get x.cells i) (place_of classes x.class f)

-- the value of a field of an object that may be missing; there is none in an object of a class that
-- does not declare the field, which the kinds rule out
abbrev pub cell_of : List ClassDef → ℕ → Option Object → Seen
cell_of classes f None = Bad
cell_of classes f (Some x) = value_in (cell classes f x)

-- `v.f` in a clause: Bad where v is null, or an object that the heap lacks
abbrev pub field : List ClassDef → Heap → ℕ → Value → Seen
field classes heap f Null = Bad
field classes heap f (Obj o) = cell_of classes f (slice_get heap o)
field classes heap f _ = Out

-- the heap, with the cell of this place of an object set
abbrev pub put_cell : Heap → ℕ → Object → Value → ℕ → Option Heap
put_cell heap o x v i =
    if nat_lt i (length x.cells) then Some (slice_set heap o (record x { cells = slice_set x.cells i v })) else None

-- the heap, with a field of an object set; None where the heap lacks the object, or the object the
-- field
abbrev pub put : List ClassDef → Heap → ℕ → ℕ → Value → Option Heap
put classes heap f o v = option_and_then (λ x. option_and_then (put_cell heap o x v) (place_of classes x.class f)) (slice_get heap o)

-- the value with which a field of this number begins
abbrev pub first_value : List FieldDef → ℕ → Value
first_value fields f = option_map_or (λ d. zero_of d.kind) (slice_get fields f) Null

-- an object as `new` makes it, of the class of this number, where there is one
abbrev pub blank : Parts → ℕ → Option Object
blank u class = option_map (λ d. record { class = class; cells = map (first_value u.fields) d.fields }) (slice_get u.classes class)

-- the heap has room for one more object of the class (this project's own)
abbrev pub has_room : Posed → Heap → ℕ → Bool
has_room p heap class = nat_lt (length heap) p.scope.objects

-- the heap with a new object of the class, which has the next number; None without room
abbrev pub grown : Posed → Heap → ℕ → Option Heap
grown p heap class = if has_room p heap class then option_map (λ x. heap ++ x ∷ []) (blank p.unit class) else None

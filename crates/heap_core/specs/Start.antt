-- Starts of a problem. (This project's own.)
use Rattle.std.specs.Prelude.{List, ◌≡◌, ℕ, ◌≤◌, ◌<◌, Bool, true, false, ◌∷◌, length, slice_get, Option, Some, IsTrue, Contains}
use Rattle.std.specs.List.{list_all}
use Rattle.std.specs.Option.{option_map_or}
use Rattle.std.specs.Cmp.Lexicographic.{pointwise}
use Rattle.taco_unit.specs.declared.kind.Kind.{Kind}
use Rattle.taco_unit.specs.declared.kind.Kind.TheVariants as kind
use Rattle.taco_unit.specs.declared.unit.MethodDef.{MethodDef}
use Rattle.taco_unit.specs.declared.unit.FieldDef.{FieldDef}
use Rattle.taco_unit.specs.declared.unit.ParamDef.{ParamDef}
use Rattle.taco_unit.specs.Parts.{Parts}
use Rattle.heap_core.specs.declared.value.Value.{Value}
use Rattle.heap_core.specs.declared.value.Value.TheVariants.{Null, Obj, Num, Flag}
use Rattle.heap_core.specs.declared.value.Object.{Object}
use Rattle.heap_core.specs.declared.start.Start.{Start}
use Rattle.heap_core.specs.Posed.{Posed}
use Rattle.heap_core.specs.Outcomes.{in_bits, is_null}
use Rattle.heap_core.specs.Heap.{Heap, is_of}

-- the value is one of the kind: a number of w bits, a truth value, null or an object of the class
abbrev pub has_kind : ℕ → Heap → Kind → Value → Bool
has_kind w heap kind.Int (Num z) = in_bits w z
has_kind w heap kind.Flag (Flag b) = true
has_kind w heap (kind.Ref c) Null = true
has_kind w heap (kind.Ref c) (Obj o) = is_of heap c o
has_kind w heap _ _ = false

-- the value is one of the kind of the field of this number
abbrev pub has_field_kind : List FieldDef → ℕ → Heap → ℕ → Value → Bool
has_field_kind fields w heap f v = option_map_or (λ d. has_kind w heap d.kind v) (slice_get fields f) false

-- the object is of a class of the unit and has one value of its kind for each of its fields
abbrev pub is_whole : Parts → ℕ → Heap → Object → Bool
is_whole u w heap x = option_map_or (λ d. pointwise (has_field_kind u.fields w heap) d.fields x.cells) (slice_get u.classes x.class) false

-- a value that a static method, or an instance method of this class, can have as its receiver
abbrev pub is_receiver : Heap → ℕ → Bool → Value → Bool
is_receiver heap class true v = is_null v
is_receiver heap class false (Obj o) = is_of heap class o
is_receiver heap class false _ = false

-- the method that is judged
abbrev pub method_of : Posed → Option MethodDef
method_of p = slice_get p.unit.methods p.method

-- the value is one of the parameter's kind
abbrev pub is_argument : ℕ → Heap → ParamDef → Value → Bool
is_argument w heap q v = has_kind w heap q.kind v

-- an object is reached from the receiver or an argument, or from a field of an object that is reached
pub data Reached (s : Start) : ℕ → Type 0 where
  root : (o : ℕ) → Contains (s.this ∷ s.args) (Obj o) → Reached s o
  held : (p o : ℕ) (x : Object) → Reached s p → slice_get s.objects p ≡ Some x → Contains x.cells (Obj o) → Reached s o

-- a start of the problem: its heap has room, its objects are whole, it has a receiver exactly where the
-- method is not static, and one argument for each parameter, all of their kinds, and every object is
-- reached; the numbering is free
pub record Fits (s : Start) (p : Posed) : Type 0 where
  pub few_objects : length s.objects ≤ p.scope.objects
  pub objects_whole : IsTrue (list_all (is_whole p.unit p.scope.ints s.objects) s.objects)
  pub receiver : IsTrue (option_map_or (λ m. is_receiver s.objects m.class m.fixed s.this) (method_of p) false)
  pub arguments : IsTrue (option_map_or (λ m. pointwise (is_argument p.scope.ints s.objects) m.params s.args) (method_of p) false)
  pub all_reached : (o : ℕ) → o < length s.objects → Reached s o

-- What a reading shows at given indices: values, heaps, states and starts. (This project's own.)
use Rattle.std.specs.Prelude.{◌≡◌, ℕ, ◌≤◌, ◌==◌, nat_lt, ℤ, pos, negsuc, if◌then◌else◌, List, [], ◌∷◌, ◌++◌, length, map, filter, count_by, get_or, slice_get, Some, IsTrue}
use Rattle.std.specs.Option.{option_map_or}
use Rattle.taco_unit.specs.declared.kind.Kind.{Kind}
use Rattle.taco_unit.specs.declared.kind.Kind.TheVariants as kind
use Rattle.taco_unit.specs.declared.unit.ClassDef.{ClassDef}
use Rattle.taco_unit.specs.declared.unit.FieldDef.{FieldDef}
use Rattle.taco_unit.specs.declared.unit.MethodDef.{MethodDef}
use Rattle.taco_unit.specs.Parts.{Parts}
use Rattle.taco_unit.specs.Kinds.{is_class_kind}
use Rattle.heap_core.specs.declared.value.Value.{Value}
use Rattle.heap_core.specs.declared.value.Value.TheVariants.{Null, Obj, Num, Flag}
use Rattle.heap_core.specs.declared.value.Object.{Object}
use Rattle.heap_core.specs.declared.value.Seen.TheVariants.{Is}
use Rattle.heap_core.specs.declared.start.Start.{Start}
use Rattle.heap_core.specs.Posed.{Posed}
use Rattle.heap_core.specs.Outcomes.{is_value, gives}
use Rattle.heap_core.specs.Heap.{Heap, is_of, field}
use Rattle.heap_core.specs.Start.{method_of}
use Rattle.rel_core.specs.declared.relation.RelVar.{RelVar}
use Rattle.rel_core.specs.declared.relation.What.TheVariants as what
use Rattle.rel_core.specs.declared.indices.Indices.{Indices}
use Rattle.rel_core.specs.Reading.{Reading, numbers_below, references, is_reference}
use Rattle.rel_core.specs.Uses.{Kinds, start_kinds}

-- ## the relations at given indices

abbrev pub live_relation : Indices → RelVar
live_relation at = record { what = what.Live; index = at.live }

abbrev pub class_relation : Indices → RelVar
class_relation at = record { what = what.ClassOf; index = at.live }

-- a field without an index is at index 0
abbrev pub field_relation : Indices → ℕ → RelVar
field_relation at f = record { what = what.Field f; index = get_or at.heap f 0 }

-- the index that is listed first for a variable, and 0 where none is
abbrev pub slot_index : List (ℕ × ℕ) → ℕ → ℕ
slot_index [] x = 0
slot_index (s ∷ ss) x = if s.0 == x then s.1 else slot_index ss x

abbrev pub slot_relation : Indices → ℕ → RelVar
slot_relation at x = record { what = what.Slot x; index = slot_index at.slots x }

-- each relation is at index 0
pub record IsFirst (at : Indices) : Type 0 where
  pub live : at.live ≡ 0
  pub fields : (f : ℕ) → get_or at.heap f 0 ≡ 0
  pub slots : (x : ℕ) → slot_index at.slots x ≡ 0

-- ## what is shown

-- a value of this kind: the number, the truth value, or null or an object below K that is there and nothing else
abbrev pub ShowsValue : Reading → Kind → RelVar → ℕ → Value → Type 0
ShowsValue m kind.Int r o v = v ≡ Num (m.number r o)
ShowsValue m kind.Flag r o v = v ≡ Flag (m.flag r o)
ShowsValue m (kind.Ref c) r o v = IsTrue (is_reference m.objects v) × ((u : Value) → m.refs r o u ≡ is_value v u)

-- the field has a value at this object, which is shown
pub record ShowsCell (u : Parts) (m : Reading) (at : Indices) (heap : Heap) (f : ℕ) (d : FieldDef) (o : ℕ) : Type 0 where
  pub value : Value
  pub is : field u.classes heap f (Obj o) ≡ Is value
  pub shown : ShowsValue m d.kind (field_relation at f) o value

-- a heap of at most K objects: which are there, the class of each, the value of each field at each object of its
-- class; and a field of class kind has references at no other place
pub record ShowsHeap (u : Parts) (m : Reading) (at : Indices) (heap : Heap) : Type 0 where
  pub few : length heap ≤ m.objects
  pub live : (o : ℕ) → m.flag (live_relation at) o ≡ nat_lt o (length heap)
  pub classes : (o : ℕ) (x : Object) → slice_get heap o ≡ Some x → m.number (class_relation at) o ≡ pos x.class
  pub cells : (f : ℕ) (d : FieldDef) (o : ℕ) → slice_get u.fields f ≡ Some d → IsTrue (is_of heap d.class o) → ShowsCell u m at heap f d o
  pub links : (f : ℕ) (d : FieldDef) (o : ℕ) (v : Value) → slice_get u.fields f ≡ Some d → IsTrue (is_class_kind d.kind)
      → m.refs (field_relation at f) o v ≡ gives v (field u.classes heap f (Obj o))

-- a heap, with the values of program variables
pub record State : Type 0 where
  pub heap : Heap
  pub value : ℕ → Value

-- a state: its heap, and the value of each variable that has a kind
pub record ShowsState (u : Parts) (kinds : Kinds) (m : Reading) (at : Indices) (s : State) : Type 0 where
  pub heap : ShowsHeap u m at s.heap
  pub values : (x : ℕ) (k : Kind) → kinds x ≡ Some k → ShowsValue m k (slot_relation at x) 0 (s.value x)

-- the state with which a run begins: the arguments, then the receiver
abbrev pub state_of : Start → State
state_of s = record { heap = s.objects; value = λ x. get_or (s.args ++ s.this ∷ []) x Null }

-- a start: its heap, arguments and receiver
abbrev pub ShowsStart : Posed → Reading → Indices → Start → Type 0
ShowsStart p m at s = ShowsState p.unit (slice_get (start_kinds p)) m at (state_of s)

-- ## the start that is shown, as a value

-- the first reference of a relation at a place, and null where there is none
abbrev pub first_reference : Reading → RelVar → ℕ → Value
first_reference m r o = get_or (filter (m.refs r o) (references m.objects)) 0 Null

-- what a relation has at a place as a value of this kind
abbrev pub value_shown : Reading → Kind → RelVar → ℕ → Value
value_shown m kind.Int r o = Num (m.number r o)
value_shown m kind.Flag r o = Flag (m.flag r o)
value_shown m (kind.Ref c) r o = first_reference m r o

abbrev pub natural : ℤ → ℕ
natural (pos n) = n
natural (negsuc n) = 0

abbrev pub cells_shown : Parts → Reading → Indices → ℕ → ClassDef → List Value
cells_shown u m at o d =
    map (λ f. option_map_or (λ g. value_shown m g.kind (field_relation at f) o) (slice_get u.fields f) Null) d.fields

abbrev pub object_shown : Parts → Reading → Indices → ℕ → Object
object_shown u m at o =
    let class = natural (m.number (class_relation at) o) in
    record { class = class; cells = option_map_or (cells_shown u m at o) (slice_get u.classes class) [] }

-- as many objects as are there
abbrev pub heap_shown : Parts → Reading → Indices → Heap
heap_shown u m at = map (object_shown u m at) (numbers_below (count_by (m.flag (live_relation at)) (numbers_below m.objects)))

abbrev pub variable_shown : Reading → Indices → Kind → ℕ → Value
variable_shown m at k x = value_shown m k (slot_relation at x) 0

abbrev pub arguments_shown : Reading → Indices → MethodDef → List Value
arguments_shown m at d =
    map (λ x. option_map_or (λ q. variable_shown m at q.kind x) (slice_get d.params x) Null) (numbers_below (length d.params))

abbrev pub receiver_shown : Reading → Indices → MethodDef → Value
receiver_shown m at d = if d.fixed then Null else variable_shown m at (kind.Ref d.class) (length d.params)

-- the start that a reading has at these indices
abbrev pub start_of : Posed → Reading → Indices → Start
start_of p m at = record {
  objects = heap_shown p.unit m at;
  this = option_map_or (receiver_shown m at) (method_of p) Null;
  args = option_map_or (arguments_shown m at) (method_of p) [];
}

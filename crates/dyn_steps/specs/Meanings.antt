-- What the formulas of single actions mean under a reading. (This project's own.)
use Rattle.std.specs.Prelude.{ℕ, ◌+◌, ◌-◌, ◌==◌, ℤ, pos, Bool, false, not, ◌&&◌, ◌||◌, List, slice_get, Option, Some}
use Rattle.std.specs.List.{list_all}
use Rattle.std.specs.Ordering.{int_eq}
use Rattle.std.specs.Option.{option_map_or}
use Rattle.taco_unit.specs.declared.kind.Kind.{Kind}
use Rattle.taco_unit.specs.declared.kind.Kind.TheVariants as kind
use Rattle.taco_unit.specs.declared.unit.FieldDef.{FieldDef}
use Rattle.heap_core.specs.declared.value.Value.{Value}
use Rattle.heap_core.specs.declared.value.Value.TheVariants.{Null, Obj, Num, Flag}
use Rattle.heap_core.specs.Outcomes.{is_null, is_object, same_flag}
use Rattle.heap_core.specs.Posed.{Posed}
use Rattle.rel_core.specs.declared.relation.RelVar.{RelVar}
use Rattle.rel_core.specs.declared.relation.What.{What}
use Rattle.rel_core.specs.declared.relation.What.TheVariants as what
use Rattle.rel_core.specs.Reading.{Reading, numbers_below}
use Rattle.rel_core.specs.Meaning.{ValueSet, joined, only_object, fitting, with_both, is_subset, are_of, is_changed}
use Rattle.rel_core.specs.Uses.{Kinds, can_change}
use Rattle.dyn_steps.specs.declared.point.Point.{Point}
use Rattle.dyn_steps.specs.Points.{index_of, relation_at, slot}

-- two sets have the same references
abbrev pub same_sets : Reading → ValueSet → ValueSet → Bool
same_sets m s t = is_subset m s t && is_subset m t s

-- two variables have one value of this kind
abbrev pub same_variables : Reading → Kind → RelVar → RelVar → Bool
same_variables m kind.Int r q = int_eq (m.number r 0) (m.number q 0)
same_variables m kind.Flag r q = same_flag (m.flag r 0) (m.flag q 0)
same_variables m (kind.Ref c) r q = same_sets m (m.refs r 0) (m.refs q 0)

-- a variable is this number, where there is one
abbrev pub is_number : Reading → RelVar → Option ℤ → Bool
is_number m r z = with_both (Some (m.number r 0)) z int_eq false

-- a variable is this constant, where it fits; no constant is an object
abbrev pub is_constant : Reading → RelVar → Value → Bool
is_constant m r (Num z) = is_number m r (fitting m.ints z)
is_constant m r (Flag b) = same_flag (m.flag r 0) b
is_constant m r Null = same_sets m (m.refs r 0) is_null
is_constant m r (Obj o) = false

-- a variable is not null
abbrev pub is_through : Reading → RelVar → Bool
is_through m r = not (is_subset m is_null (m.refs r 0))

-- a variable is what a field of this kind has at the object of another
abbrev pub is_cell : Reading → Kind → RelVar → RelVar → RelVar → Bool
is_cell m kind.Int r object f = int_eq (m.number r 0) (option_map_or (m.number f) (only_object m (m.refs object 0)) (pos 0))
is_cell m kind.Flag r object f = same_flag (m.flag r 0) (option_map_or (m.flag f) (only_object m (m.refs object 0)) false)
is_cell m (kind.Ref c) r object f = same_sets m (m.refs r 0) (joined m (m.refs object 0) f)

-- ## a new object

-- a flag of a relation at the object of this number
abbrev pub there : Reading → RelVar → ℕ → Bool
there m live o = option_map_or (m.flag live) (only_object m (is_object o)) false

-- the object of this number is not there, and the one before it is
abbrev pub is_next : Reading → RelVar → ℕ → Bool
is_next m live o = not (there m live o) && (o == 0 || there m live (o - 1))

-- a variable is the object of this number, where that is the next
abbrev pub is_placed : Reading → RelVar → RelVar → ℕ → Bool
is_placed m r live o = not (is_next m live o) || same_sets m (m.refs r 0) (is_object o)

-- a relation has at place 0 the value with which fields of this kind begin
abbrev pub is_first : Reading → Kind → RelVar → Bool
is_first m kind.Int r = with_both (Some (option_map_or (m.number r) (only_object m (is_object 0)) (pos 0))) (fitting m.ints (pos 0)) int_eq false
is_first m kind.Flag r = not (there m r 0)
is_first m (kind.Ref c) r = same_sets m (joined m (is_object 0) r) is_null

-- a relation is another, but that at the object of a variable it has what a third has at place 0
abbrev pub is_grown : Reading → RelVar → What → ℕ → ℕ → Bool
is_grown m r w n old = is_changed m (record { what = w; index = n }) (m.refs r 0) (record { what = w; index = n + 1 }) (record { what = w; index = old })

-- a relation can be so
abbrev pub changes : Posed → Kinds → What → ℕ → ℕ → Bool
changes p kinds w n old = can_change p kinds (record { what = w; index = n }) (record { what = w; index = n + 1 }) (record { what = w; index = old })

-- which objects are there, and of which class each is, with a new one
abbrev pub live_grown : Reading → Point → ℕ → RelVar → Bool
live_grown m at n r = there m (record { what = what.Live; index = n + 1 }) 0 && is_grown m r what.Live n at.live

abbrev pub class_grown : Reading → Point → ℕ → RelVar → ℕ → Bool
class_grown m at n r c = are_of m (is_object 0) c (record { what = what.ClassOf; index = n + 1 }) && is_grown m r what.ClassOf n at.live

-- the kind of a field, where the unit has it
abbrev pub field_kind : List FieldDef → ℕ → Kind
field_kind fields f = option_map_or (λ d. d.kind) (slice_get fields f) kind.Int

-- a field of the class has its first value at a new object
abbrev pub field_grown : Reading → List FieldDef → Point → ℕ → RelVar → ℕ → Bool
field_grown m fields at n r f = is_first m (field_kind fields f) (record { what = what.Field f; index = n + 1 }) && is_grown m r (what.Field f) n (index_of at (what.Field f))

-- there is room, the variable is the next object, and it is there, of its class and with its fields' first values
abbrev pub is_made : Reading → Posed → Point → ℕ → ℕ → ℕ → List ℕ → Bool
is_made m p at n x c fs =
    not (there m (relation_at at what.Live) (p.scope.objects - 1))
    && list_all (is_placed m (slot x n) (relation_at at what.Live)) (numbers_below p.scope.objects)
    && live_grown m at n (slot x n)
    && class_grown m at n (slot x n) c
    && list_all (field_grown m p.unit.fields at n (slot x n)) fs

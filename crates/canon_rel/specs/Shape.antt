-- The shape of a start: which objects are there, and one value at each root and each class-kind field. (This project's
-- own.)
use Rattle.std.specs.Prelude.{ℕ, ◌-◌, ◌==◌, Bool, true, false, not, ◌&&◌, ◌||◌, if◌then◌else◌, length, slice_get}
use Rattle.std.specs.List.{list_all, range_with_len}
use Rattle.std.specs.Option.{option_map_or}
use Rattle.taco_unit.specs.declared.kind.Kind.{Kind}
use Rattle.taco_unit.specs.declared.kind.Kind.TheVariants as kind
use Rattle.taco_unit.specs.declared.unit.FieldDef.{FieldDef}
use Rattle.taco_unit.specs.declared.unit.MethodDef.{MethodDef}
use Rattle.taco_unit.specs.declared.unit.ParamDef.{ParamDef}
use Rattle.heap_core.specs.Outcomes.{is_null}
use Rattle.heap_core.specs.Posed.{Posed}
use Rattle.heap_core.specs.Start.{method_of}
use Rattle.rel_core.specs.declared.indices.Indices.{Indices}
use Rattle.rel_core.specs.Reading.{Reading, numbers_below}
use Rattle.rel_core.specs.Meaning.{ValueSet, is_subset, are_of, only_object}
use Rattle.rel_core.specs.Shown.{live_relation, class_relation, field_relation, slot_relation}
use Rattle.rel_core.specs.Laws.{is_of_shown}

-- ## sets

-- null and nothing else
abbrev pub is_null_alone : Reading → ValueSet → Bool
is_null_alone m s = is_subset m s is_null && is_subset m is_null s

-- one object that is there, of this class, and nothing else
abbrev pub is_one_object : Reading → Indices → ℕ → ValueSet → Bool
is_one_object m at c s =
    option_map_or (m.flag (live_relation at)) (only_object m s) false && are_of m s c (class_relation at) && not (is_subset m is_null s)

abbrev pub is_one_value : Reading → Indices → ℕ → ValueSet → Bool
is_one_value m at c s = is_null_alone m s || is_one_object m at c s

abbrev pub is_nothing : Reading → ValueSet → Bool
is_nothing m s = is_subset m s is_null && not (is_subset m is_null s)

-- ## the parts of a start

-- an object is there only where the one before it is
abbrev pub is_next : Indices → Reading → ℕ → Bool
is_next at m o = o == 0 || not (m.flag (live_relation at) o) || m.flag (live_relation at) (o - 1)

-- of a class kind the condition on its class; other kinds are not spoken of
abbrev pub on_class : Kind → (ℕ → Bool) → Bool
on_class (kind.Ref c) fits = fits c
on_class _ fits = true

-- a set is one value at an object of the class that is there, and nothing at any other
abbrev pub is_declared_value : Indices → Reading → ℕ → ℕ → ℕ → ValueSet → Bool
is_declared_value at m owner o c s = if is_of_shown m at owner o then is_one_value m at c s else is_nothing m s

-- the references of a class-kind field at an object are such a set
abbrev pub field_fits : Indices → Reading → ℕ → ℕ → FieldDef → Bool
field_fits at m o f d = on_class d.kind (λ c. is_declared_value at m d.class o c (m.refs (field_relation at f) o))

-- all class-kind fields at an object
abbrev pub fields_fit : Posed → Indices → Reading → ℕ → Bool
fields_fit p at m o =
    list_all (λ f. option_map_or (field_fits at m o f) (slice_get p.unit.fields f) true) (range_with_len 0 (length p.unit.fields))

-- a parameter of class kind has one value
abbrev pub argument_fits : Indices → Reading → ℕ → ParamDef → Bool
argument_fits at m x q = on_class q.kind (λ c. is_one_value m at c (m.refs (slot_relation at x) 0))

-- the receiver is an object of the method's class; a static method has none
abbrev pub receiver_fits : Indices → Reading → MethodDef → Bool
receiver_fits at m d = d.fixed || is_one_object m at d.class (m.refs (slot_relation at (length d.params)) 0)

abbrev pub arguments_fit : Indices → Reading → MethodDef → Bool
arguments_fit at m d = list_all (λ x. option_map_or (argument_fits at m x) (slice_get d.params x) true) (range_with_len 0 (length d.params))

abbrev pub roots_fit : Indices → Reading → MethodDef → Bool
roots_fit at m d = receiver_fits at m d && arguments_fit at m d

-- the reading has the shape of a start
abbrev pub has_shape : Posed → Indices → Reading → Bool
has_shape p at m =
    list_all (is_next at m) (numbers_below p.scope.objects)
    && list_all (fields_fit p at m) (numbers_below p.scope.objects)
    && option_map_or (roots_fit at m) (method_of p) false

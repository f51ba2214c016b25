-- The places of a start that hold references: roots, and class-kind fields of objects. (This project's own.)
use Rattle.std.specs.Prelude.{ℕ, zero, suc, nat_lt, Bool, true, ◌&&◌, List, [], ◌++◌, length, map, flat_map}
use Rattle.std.specs.List.{list_all, range_with_len}
use Rattle.std.specs.Option.{option_map_or}
use Rattle.taco_unit.specs.declared.unit.MethodDef.{MethodDef}
use Rattle.heap_core.specs.Posed.{Posed}
use Rattle.heap_core.specs.Start.{method_of}
use Rattle.canonical_order.specs.Tuples.{roots_of, links_of}
use Rattle.rel_core.specs.declared.indices.Indices.{Indices}
use Rattle.rel_core.specs.Reading.{Reading}
use Rattle.rel_core.specs.Meaning.{ValueSet}
use Rattle.rel_core.specs.Uses.{Kinds, AsSet, is_variable, is_spread}
use Rattle.rel_core.specs.Shown.{field_relation, slot_relation}
use Rattle.canon_rel.specs.declared.places.Place.{Place}
use Rattle.canon_rel.specs.declared.places.Place.TheVariants as place

-- what a reading has at a place
abbrev pub refs_at : Reading → Place → ValueSet
refs_at m (place.Variable r) = m.refs r 0
refs_at m (place.Field r o) = m.refs r o

-- the variable of a root: of the receiver it is the one behind the parameters, and of a parameter its own
abbrev pub root_variable : MethodDef → ℕ → ℕ
root_variable d zero = length d.params
root_variable d (suc i) = i

abbrev pub root_place : Indices → MethodDef → ℕ → Place
root_place at d r = place.Variable (slot_relation at (root_variable d r))

-- the roots: the receiver first, where there is one, and then the parameters of class kind
abbrev pub root_places : Posed → Indices → List Place
root_places p at = option_map_or (λ d. map (root_place at d) (roots_of d)) (method_of p) []

-- the class-kind fields of an object, in the order of the unit
abbrev pub field_places : Posed → Indices → ℕ → List Place
field_places p at o = map (λ f. place.Field (field_relation at f) o) (links_of p.unit)

-- the roots, and then the class-kind fields of the objects below a number, object by object
abbrev pub places_below : Posed → Indices → ℕ → List Place
places_below p at n = root_places p at ++ flat_map (field_places p at) (range_with_len 0 n)

-- ## which places there are

-- a field is looked at at objects below a number
abbrev pub is_within : ℕ → Place → Bool
is_within objects (place.Variable r) = true
is_within objects (place.Field r o) = nat_lt o objects

-- the relation is used for its references, a variable or a field of an object
abbrev pub is_sorted_place : Posed → Kinds → Place → Bool
is_sorted_place p kinds (place.Variable r) = is_variable p kinds AsSet r
is_sorted_place p kinds (place.Field r o) = nat_lt o p.scope.objects && is_spread p kinds AsSet r

-- so are all of these places
abbrev pub are_within : ℕ → List Place → Bool
are_within objects = list_all (is_within objects)

abbrev pub are_sorted : Posed → Kinds → List Place → Bool
are_sorted p kinds = list_all (is_sorted_place p kinds)

-- the object can be named in the problem
abbrev pub is_named : Posed → ℕ → Bool
is_named p o = nat_lt o p.scope.objects

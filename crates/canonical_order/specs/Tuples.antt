-- The tuples of a problem. (This project's own; the TACO article, "Computing Tight Field Bounds", gives the
-- purpose: a tuple that no canonical heap holds may be left out.)
use Rattle.std.specs.Prelude.{not, ◌+◌, ℕ, zero, suc, Bool, false, List, [], ◌∷◌, ◌++◌, length, map, filter, flat_map, slice_get, IsTrue}
use Rattle.std.specs.List.{range_with_len}
use Rattle.std.specs.Option.{option_map_or}
use Rattle.taco_unit.specs.declared.unit.MethodDef.{MethodDef}
use Rattle.taco_unit.specs.Parts.{Parts}
use Rattle.taco_unit.specs.Kinds.{is_class_kind}
use Rattle.heap_core.specs.declared.value.Value.{Value}
use Rattle.heap_core.specs.declared.value.Value.TheVariants.{Null, Obj}
use Rattle.heap_core.specs.declared.start.Start.{Start}
use Rattle.heap_core.specs.Posed.{Posed}
use Rattle.heap_core.specs.Outcomes.{is_value, gives}
use Rattle.heap_core.specs.Heap.{field}
use Rattle.heap_core.specs.Start.{Fits, method_of}
use Rattle.heap_core.specs.Judge.{is_good}
use Rattle.canonical_order.specs.declared.tuple.Tuple.{Tuple}
use Rattle.canonical_order.specs.declared.tuple.Tuple.TheVariants.{Root, Field}
use Rattle.canonical_order.specs.Canonical.{IsCanonical}

-- the values of a tuple: null, then the objects below K
abbrev pub targets : ℕ → List Value
targets objects = Null ∷ map Obj (range_with_len 0 objects)

-- the receiver is a root, where there is one, and so is each parameter of class kind, counted from 1
abbrev pub is_root : MethodDef → ℕ → Bool
is_root m zero = not m.fixed
is_root m (suc i) = option_map_or (λ q. is_class_kind q.kind) (slice_get m.params i) false

-- the roots of a method in order
abbrev pub roots_of : MethodDef → List ℕ
roots_of m = filter (is_root m) (range_with_len 0 (length m.params + 1))

-- the field of this number is of class kind
abbrev pub is_link : Parts → ℕ → Bool
is_link u f = option_map_or (λ d. is_class_kind d.kind) (slice_get u.fields f) false

-- the fields of class kind, in the order of the unit
abbrev pub links_of : Parts → List ℕ
links_of u = filter (is_link u) (range_with_len 0 (length u.fields))

-- the tuples of these roots: of each null, 0, .., K - 1
abbrev pub tuples_of_roots : ℕ → List ℕ → List Tuple
tuples_of_roots objects = flat_map (λ r. map (Root r) (targets objects))

-- the tuples of these fields: of each the objects 0, .., K - 1, and of each of these null, 0, .., K - 1
abbrev pub tuples_of_links : ℕ → List ℕ → List Tuple
tuples_of_links objects = flat_map (λ f. flat_map (λ o. map (Field f o) (targets objects)) (range_with_len 0 objects))

-- the tuples of a problem in order: those of its roots, then those of its class-kind fields
abbrev pub root_tuples : Posed → List Tuple
root_tuples p = tuples_of_roots p.scope.objects (option_map_or roots_of (method_of p) [])

abbrev pub field_tuples : Posed → List Tuple
field_tuples p = tuples_of_links p.scope.objects (links_of p.unit)

abbrev pub tuples : Posed → List Tuple
tuples p = root_tuples p ++ field_tuples p

-- the tuple occurs in the start: that root, or that field of that object, whose class declares the field, has
-- that value
abbrev pub occurs : Posed → Start → Tuple → Bool
occurs p s (Root zero v) = is_value s.this v
occurs p s (Root (suc i) v) = option_map_or (λ u. is_value u v) (slice_get s.args i) false
occurs p s (Field f o v) = gives v (field p.unit.classes s.objects f (Obj o))

-- a canonical start whose heap is good, in which the tuple occurs
pub record Shows (p : Posed) (t : Tuple) (s : Start) : Type 0 where
  pub fits : Fits s p
  pub canonical : IsCanonical s
  pub good : IsTrue (is_good p s.objects)
  pub holds : IsTrue (occurs p s t)

-- the tuple occurs in some canonical start whose heap is good; `requires` clauses and parameters that must not
-- be null play no part
abbrev pub Possible : Posed → Tuple → Type 0
Possible p t = (s : Start) × Shows p t s

-- it occurs in none
abbrev pub Impossible : Posed → Tuple → Type 0
Impossible p t = ¬ Possible p t

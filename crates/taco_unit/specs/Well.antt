-- A unit whose names, numbers and kinds fit. (This project's own.)
use Rattle.std.specs.Prelude.{◌≡◌, ◌≢◌, ℕ, ◌≤◌, ◌<◌, Bool, true, false, ◌==◌, List, [], ◌++◌, length, map, slice_get, filter, count_by, IsTrue, AllPairs, Option, Some, None, option_map}
use Rattle.std.specs.List.{list_all, range_with_len}
use Rattle.std.specs.Option.{option_map_or}
use Rattle.taco_unit.specs.declared.kind.Kind.{Kind}
use Rattle.taco_unit.specs.declared.unit.Clause.{Clause}
use Rattle.taco_unit.specs.declared.unit.ClassDef.{ClassDef}
use Rattle.taco_unit.specs.declared.unit.FieldDef.{FieldDef}
use Rattle.taco_unit.specs.declared.unit.MethodDef.{MethodDef}
use Rattle.taco_unit.specs.Parts.{Parts}
use Rattle.taco_unit.specs.Words.{is_word}
use Rattle.taco_unit.specs.Kinds.{Around, Form, Code, Entry, Exit, is_kind_of, is_class_kind, is_condition}
use Rattle.taco_unit.specs.Bodies.{is_fitting}

-- the numbers of the fields of a class, in rising order
abbrev pub fields_of : Parts → ℕ → List ℕ
fields_of u class =
    filter (λ f. option_map_or (λ d. d.class == class) (slice_get u.fields f) false) (range_with_len 0 (length u.fields))

-- the numbers of the methods of a class, in rising order
abbrev pub methods_of : Parts → ℕ → List ℕ
methods_of u class =
    filter (λ m. option_map_or (λ d. d.class == class) (slice_get u.methods m) false) (range_with_len 0 (length u.methods))

-- around an invariant of a class: no locals, no `\result`, no `\old`
abbrev pub around_invariant : Parts → ℕ → Around
around_invariant u class = record { unit = u; form = Entry; this = Some class; locals = []; bound = []; result = None }

-- the class of a method's receiver, which a static method lacks
abbrev pub receiver_of : Bool → ℕ → Option ℕ
receiver_of true class = None
receiver_of false class = Some class

-- the kind of a method's result, where it has one
abbrev pub result_kind : MethodDef → Option Kind
result_kind m = option_map (λ r. r.0) m.result

-- the kinds of a method's parameters
abbrev pub param_kinds : MethodDef → List Kind
param_kinds m = map (λ p. p.kind) m.params

-- around a part of a method, where these locals may be named
abbrev pub around_method : Parts → MethodDef → Form → List Kind → Around
around_method u m form locals =
    record { unit = u; form = form; this = receiver_of m.fixed m.class; locals = locals; bound = []; result = result_kind m }

-- all of these clauses are conditions
abbrev pub are_conditions : Around → List Clause → Bool
are_conditions k = list_all (λ c. is_condition k c.expr)

-- the class of this number lists its fields and methods, and its invariants are conditions
pub record IsWellClass (u : Parts) (class : ℕ) (d : ClassDef) : Type 0 where
  pub named : IsTrue (is_word d.name)
  pub lists_fields : d.fields ≡ fields_of u class
  pub lists_methods : d.methods ≡ methods_of u class
  pub invariants : IsTrue (are_conditions (around_invariant u class) d.invariants)
  pub few_invariants : length d.invariants ≤ 255

-- a field stands in a class of the unit, and so does its kind
pub record IsWellField (u : Parts) (d : FieldDef) : Type 0 where
  pub named : IsTrue (is_word d.name)
  pub in_class : d.class < length u.classes
  pub kind_there : IsTrue (is_kind_of u d.kind)

-- a method stands in a class of the unit, and so do its kinds; its parameters have names of their own;
-- its clauses are conditions over its parameters, and its body fits over parameters and locals
pub record IsWellMethod (u : Parts) (m : MethodDef) : Type 0 where
  pub named : IsTrue (is_word m.name)
  pub in_class : m.class < length u.classes
  pub params_named : IsTrue (list_all (λ p. is_word p.name) m.params)
  pub params_apart : AllPairs (λ p q. p.name ≢ q.name) m.params
  pub kinds_there : IsTrue (list_all (is_kind_of u) (param_kinds m ++ m.locals))
  pub result_there : IsTrue (option_map_or (is_kind_of u) (result_kind m) true)
  pub needs : IsTrue (are_conditions (around_method u m Entry (param_kinds m)) m.needs)
  pub gives : IsTrue (are_conditions (around_method u m Exit (param_kinds m)) m.gives)
  pub body : IsTrue (is_fitting m.body (around_method u m Code (param_kinds m ++ m.locals)))
  pub few_params : length m.params ≤ 8
  pub few_needs : length m.needs ≤ 255
  pub few_gives : length m.gives ≤ 255

-- a unit is well: each class, field and method is, the names of the classes differ, and so do those of
-- the fields of one class, and the numbers of all of them are within their limits
pub record IsWell (u : Parts) : Type 0 where
  pub classes : (c : ℕ) (d : ClassDef) → slice_get u.classes c ≡ Some d → IsWellClass u c d
  pub fields : (f : ℕ) (d : FieldDef) → slice_get u.fields f ≡ Some d → IsWellField u d
  pub methods : (m : ℕ) (d : MethodDef) → slice_get u.methods m ≡ Some d → IsWellMethod u d
  pub classes_apart : AllPairs (λ c d. c.name ≢ d.name) u.classes
  pub fields_apart : AllPairs (λ f g. f.class ≡ g.class → f.name ≢ g.name) u.fields
  pub few_classes : length u.classes ≤ 16
  pub few_fields : length u.fields ≤ 64
  pub few_references : count_by (λ f. is_class_kind f.kind) u.fields ≤ 32
  pub few_methods : length u.methods ≤ 255

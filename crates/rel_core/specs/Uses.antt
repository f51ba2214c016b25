-- How relations are used: in a formula, and by a reading of a problem. (This project's own.)
use Rattle.std.specs.Prelude.{◌≡◌, ℕ, ◌==◌, nat_lt, ℤ, pos, negsuc, Bool, true, false, not, ◌&&◌, ◌||◌, if◌then◌else◌, List, [], ◌∷◌, ◌++◌, length, slice_get, Option, Some, option_map, IsTrue}
use Rattle.std.specs.Ordering.{int_eq}
use Rattle.std.specs.List.{list_all}
use Rattle.std.specs.Option.{option_map_or}
use Rattle.taco_unit.specs.declared.kind.Kind.{Kind}
use Rattle.taco_unit.specs.declared.kind.Kind.TheVariants as kind
use Rattle.taco_unit.specs.declared.unit.MethodDef.{MethodDef}
use Rattle.taco_unit.specs.Well.{param_kinds}
use Rattle.heap_core.specs.declared.value.Value.{Value}
use Rattle.heap_core.specs.Posed.{Posed}
use Rattle.heap_core.specs.Outcomes.{in_bits}
use Rattle.heap_core.specs.Start.{method_of}
use Rattle.rel_core.specs.declared.relation.RelVar.{RelVar}
use Rattle.rel_core.specs.declared.relation.What.{What}
use Rattle.rel_core.specs.declared.relation.What.TheVariants as what
use Rattle.rel_core.specs.declared.sets.RelExpr.{RelExpr, fold-RelExpr}
use Rattle.rel_core.specs.declared.sets.RelExpr.TheOpen.{RelExpr-F}
use Rattle.rel_core.specs.declared.numbers.NumExpr.{NumExpr, fold-NumExpr}
use Rattle.rel_core.specs.declared.numbers.NumExpr.TheOpen.{NumExpr-F}
use Rattle.rel_core.specs.declared.formula.Formula.{Formula, fold-Formula}
use Rattle.rel_core.specs.declared.formula.Formula.TheOpen.{Formula-F}
use Rattle.rel_core.specs.Reading.{Reading, same_what, is_reference}

-- ## the kinds of variables

-- the kind of each program variable that has one
abbrev pub Kinds : Type 0
Kinds = ℕ → Option Kind

-- the kind of a method's receiver, where it has one
abbrev pub receiver_kinds : MethodDef → List Kind
receiver_kinds m = if m.fixed then [] else kind.Ref m.class ∷ []

-- the kinds of the variables with which a run begins: the parameters in order, then the receiver
abbrev pub start_kinds : Posed → List Kind
start_kinds p = option_map_or (λ m. param_kinds m ++ receiver_kinds m) (method_of p) []

-- these variables have their kinds
abbrev pub GivesStart : Posed → Kinds → Type 0
GivesStart p kinds = (x : ℕ) (k : Kind) → slice_get (start_kinds p) x ≡ Some k → kinds x ≡ Some k

-- ## the use of a relation

-- for its references, its number, its truth value, or a class number
pub data Use : Type 0 where
  AsSet : Use
  AsNumber : Use
  AsFlag : Use
  AsClass : Use

abbrev pub same_use : Use → Use → Bool
same_use AsSet AsSet = true
same_use AsNumber AsNumber = true
same_use AsFlag AsFlag = true
same_use AsClass AsClass = true
same_use _ _ = false

abbrev pub use_of_kind : Kind → Use
use_of_kind kind.Int = AsNumber
use_of_kind kind.Flag = AsFlag
use_of_kind (kind.Ref c) = AsSet

-- the use of a relation: that of its kind, where it has one
abbrev pub use_of : Posed → Kinds → What → Option Use
use_of p kinds what.Live = Some AsFlag
use_of p kinds what.ClassOf = Some AsClass
use_of p kinds (what.Field f) = option_map (λ d. use_of_kind d.kind) (slice_get p.unit.fields f)
use_of p kinds (what.Slot x) = option_map use_of_kind (kinds x)

abbrev pub has_use : Posed → Kinds → Use → What → Bool
has_use p kinds u w = option_map_or (same_use u) (use_of p kinds w) false

abbrev pub is_slot : What → Bool
is_slot (what.Slot x) = true
is_slot _ = false

-- a program variable of this use
abbrev pub is_variable : Posed → Kinds → Use → RelVar → Bool
is_variable p kinds u r = is_slot r.what && has_use p kinds u r.what

-- a relation of this use with a value at each object
abbrev pub is_spread : Posed → Kinds → Use → RelVar → Bool
is_spread p kinds u r = not (is_slot r.what) && has_use p kinds u r.what

-- ## sorted formulas: each relation is used by its kind alone, a variable at place 0 and any other relation at
-- objects, and each object that is named is below K

abbrev pub sorted_set_step : Posed → Kinds → RelExpr-F Bool → Bool
sorted_set_step p kinds (RelExpr-F.Var r) = is_variable p kinds AsSet r
sorted_set_step p kinds RelExpr-F.Nil = true
sorted_set_step p kinds (RelExpr-F.Object o) = nat_lt o p.scope.objects
sorted_set_step p kinds (RelExpr-F.Join e r) = e && is_spread p kinds AsSet r
sorted_set_step p kinds (RelExpr-F.Reach e rs) = e && list_all (is_spread p kinds AsSet) rs

abbrev pub is_sorted_set : Posed → Kinds → RelExpr → Bool
is_sorted_set p kinds = fold-RelExpr Bool (sorted_set_step p kinds)

abbrev pub sorted_number_step : Posed → Kinds → NumExpr-F Bool → Bool
sorted_number_step p kinds (NumExpr-F.Const z) = true
sorted_number_step p kinds (NumExpr-F.Var r) = is_variable p kinds AsNumber r
sorted_number_step p kinds (NumExpr-F.At e r) = is_sorted_set p kinds e && is_spread p kinds AsNumber r
sorted_number_step p kinds (NumExpr-F.Sum a b) = a && b
sorted_number_step p kinds (NumExpr-F.Diff a b) = a && b
sorted_number_step p kinds (NumExpr-F.Product a b) = a && b
sorted_number_step p kinds (NumExpr-F.Count e) = is_sorted_set p kinds e

abbrev pub is_sorted_number : Posed → Kinds → NumExpr → Bool
is_sorted_number p kinds = fold-NumExpr Bool (sorted_number_step p kinds)

-- a relation can be the other with a given value at some objects: both are one field, or both say which objects
-- are there, or of which class they are, and the given relation has their use
abbrev pub can_change : Posed → Kinds → RelVar → RelVar → RelVar → Bool
can_change p kinds new given old =
    not (is_slot new.what) && same_what new.what old.what && option_map_or (λ u. has_use p kinds u given.what) (use_of p kinds new.what) false

abbrev pub sorted_step : Posed → Kinds → Formula-F Bool → Bool
sorted_step p kinds (Formula-F.Const b) = true
sorted_step p kinds (Formula-F.Flag r) = is_variable p kinds AsFlag r
sorted_step p kinds (Formula-F.FlagAt e r) = is_sorted_set p kinds e && is_spread p kinds AsFlag r
sorted_step p kinds (Formula-F.Subset e f) = is_sorted_set p kinds e && is_sorted_set p kinds f
sorted_step p kinds (Formula-F.IsClass e c r) = is_sorted_set p kinds e && is_spread p kinds AsClass r
sorted_step p kinds (Formula-F.SameNum a b) = is_sorted_number p kinds a && is_sorted_number p kinds b
sorted_step p kinds (Formula-F.BelowNum a b) = is_sorted_number p kinds a && is_sorted_number p kinds b
sorted_step p kinds (Formula-F.Fits a) = is_sorted_number p kinds a
sorted_step p kinds (Formula-F.Changed new e given old) = is_sorted_set p kinds e && can_change p kinds new given old
sorted_step p kinds (Formula-F.Not f) = f
sorted_step p kinds (Formula-F.And fs) = list_all (λ f. f) fs
sorted_step p kinds (Formula-F.Or fs) = list_all (λ f. f) fs
sorted_step p kinds (Formula-F.Same f g) = f && g

abbrev pub is_sorted : Posed → Kinds → Formula → Bool
is_sorted p kinds = fold-Formula Bool (sorted_step p kinds)

-- ## readings of a problem

-- the relation can have something of this use at this place
abbrev pub has_place : Posed → Kinds → Use → RelVar → ℕ → Bool
has_place p kinds u r o = has_use p kinds u r.what && nat_lt o p.scope.objects && (not (is_slot r.what) || o == 0)

-- the number of a class of the unit
abbrev pub is_class_number : Posed → ℤ → Bool
is_class_number p (pos c) = nat_lt c (length p.unit.classes)
is_class_number p (negsuc n) = false

-- the number can stand at this place of the relation: 0 everywhere
abbrev pub can_have : Posed → Kinds → RelVar → ℕ → ℤ → Bool
can_have p kinds r o z =
    int_eq z (pos 0) || (has_place p kinds AsNumber r o && in_bits p.scope.ints z) || (has_place p kinds AsClass r o && is_class_number p z)

-- the reading is one of the problem: objects and numbers are within its scope, places below K, a variable has
-- place 0 alone, and no relation has anything of a use that is not its own
pub record IsOf (p : Posed) (kinds : Kinds) (m : Reading) : Type 0 where
  pub objects : m.objects ≡ p.scope.objects
  pub ints : m.ints ≡ p.scope.ints
  pub refs : (r : RelVar) (o : ℕ) (v : Value) → IsTrue (m.refs r o v) → IsTrue (has_place p kinds AsSet r o && is_reference p.scope.objects v)
  pub numbers : (r : RelVar) (o : ℕ) → IsTrue (can_have p kinds r o (m.number r o))
  pub flags : (r : RelVar) (o : ℕ) → IsTrue (m.flag r o) → IsTrue (has_place p kinds AsFlag r o)

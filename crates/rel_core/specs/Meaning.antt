-- What formulas mean. (This project's own; the relational logic is Alloy's, "Software Abstractions", cut to sets of
-- values, whole numbers of a given width, and what the translation of Java needs.)
use Rattle.std.specs.Prelude.{ℕ, ℤ, pos, ◌+ℤ◌, ◌-ℤ◌, ◌*ℤ◌, int_lt, Bool, false, not, ◌&&◌, ◌||◌, if◌then◌else◌, List, [], ◌∷◌, filter, count_by, Option, Some, None, is_some}
use Rattle.std.specs.Ordering.{int_eq}
use Rattle.std.specs.List.{list_all, list_any}
use Rattle.std.specs.Option.{option_map_or}
use Rattle.heap_core.specs.declared.value.Value.{Value}
use Rattle.heap_core.specs.declared.value.Value.TheVariants.{Obj}
use Rattle.heap_core.specs.Outcomes.{in_bits, is_null, is_object, same_flag}
use Rattle.heap_core.specs.Closure.{closure}
use Rattle.rel_core.specs.declared.relation.RelVar.{RelVar}
use Rattle.rel_core.specs.declared.sets.RelExpr.{RelExpr, fold-RelExpr}
use Rattle.rel_core.specs.declared.sets.RelExpr.TheOpen.{RelExpr-F}
use Rattle.rel_core.specs.declared.numbers.NumExpr.{NumExpr, fold-NumExpr}
use Rattle.rel_core.specs.declared.numbers.NumExpr.TheOpen.{NumExpr-F}
use Rattle.rel_core.specs.declared.formula.Formula.{Formula, fold-Formula}
use Rattle.rel_core.specs.declared.formula.Formula.TheOpen.{Formula-F}
use Rattle.rel_core.specs.Reading.{Reading, numbers_below, references}

-- ## sets

-- a set of values
abbrev pub ValueSet : Type 0
ValueSet = Value → Bool

-- the object of this number is in the set
abbrev pub has_object : ValueSet → ℕ → Bool
has_object s o = s (Obj o)

-- the objects of these numbers, and nothing else
abbrev pub objects_only : (ℕ → Bool) → ValueSet
objects_only numbers (Obj o) = numbers o
objects_only numbers _ = false

-- what a relation has at the objects of a set
abbrev pub joined : Reading → ValueSet → RelVar → ValueSet
joined m s r v = list_any (λ o. has_object s o && m.refs r o v) (numbers_below m.objects)

-- one of the relations leads from an object to another
abbrev pub leads : Reading → List RelVar → ℕ → ℕ → Bool
leads m rs p o = list_any (λ r. m.refs r p (Obj o)) rs

-- the objects that are reached from those of a set along relations
abbrev pub reached_from : Reading → List RelVar → ValueSet → ℕ → Bool
reached_from m rs s = closure (leads m rs) m.objects (has_object s)

abbrev pub step_set : RelExpr-F (Reading → ValueSet) → Reading → ValueSet
step_set (RelExpr-F.Var r) m = m.refs r 0
step_set RelExpr-F.Nil m = is_null
step_set (RelExpr-F.Object o) m = is_object o
step_set (RelExpr-F.Join e r) m = joined m (e m) r
step_set (RelExpr-F.Reach e rs) m = objects_only (reached_from m rs (e m))

-- the values of a set
abbrev pub set_of : RelExpr → Reading → ValueSet
set_of = fold-RelExpr (Reading → ValueSet) step_set

-- the numbers of its objects
abbrev pub objects_in : Reading → ValueSet → List ℕ
objects_in m s = filter (has_object s) (numbers_below m.objects)

-- its only object, where it has exactly one
abbrev pub only : List ℕ → Option ℕ
only [] = None
only (o ∷ []) = Some o
only (o ∷ p ∷ os) = None

abbrev pub only_object : Reading → ValueSet → Option ℕ
only_object m s = only (objects_in m s)

-- ## numbers

-- a number, where it lies in the bits
abbrev pub fitting : ℕ → ℤ → Option ℤ
fitting w z = if in_bits w z then Some z else None

-- of two numbers, where both are there
abbrev pub with_both : {A : Type 0} → Option ℤ → Option ℤ → (ℤ → ℤ → A) → A → A
with_both (Some x) (Some y) f none = f x y
with_both (Some x) None f none = none
with_both None y f none = none

abbrev pub step_number : NumExpr-F (Reading → Option ℤ) → Reading → Option ℤ
step_number (NumExpr-F.Const z) m = fitting m.ints z
step_number (NumExpr-F.Var r) m = Some (m.number r 0)
step_number (NumExpr-F.At e r) m = Some (option_map_or (m.number r) (only_object m (set_of e m)) (pos 0))
step_number (NumExpr-F.Sum a b) m = with_both (a m) (b m) (λ x y. fitting m.ints (x +ℤ y)) None
step_number (NumExpr-F.Diff a b) m = with_both (a m) (b m) (λ x y. fitting m.ints (x -ℤ y)) None
step_number (NumExpr-F.Product a b) m = with_both (a m) (b m) (λ x y. fitting m.ints (x *ℤ y)) None
step_number (NumExpr-F.Count e) m = fitting m.ints (pos (count_by (has_object (set_of e m)) (numbers_below m.objects)))

-- the number of an expression, where it has one
abbrev pub number_of : NumExpr → Reading → Option ℤ
number_of = fold-NumExpr (Reading → Option ℤ) step_number

-- ## formulas

-- each value of the first set is in the second
abbrev pub is_subset : Reading → ValueSet → ValueSet → Bool
is_subset m s t = list_all (λ v. not (s v) || t v) (references m.objects)

-- every object of the set has the class
abbrev pub are_of : Reading → ValueSet → ℕ → RelVar → Bool
are_of m s c r = list_all (λ o. not (has_object s o) || int_eq (m.number r o) (pos c)) (numbers_below m.objects)

-- two relations have the same references, number and truth value, each at its place
abbrev pub same_at : Reading → RelVar → ℕ → RelVar → ℕ → Bool
same_at m r o s p =
    list_all (λ v. same_flag (m.refs r o v) (m.refs s p v)) (references m.objects) && int_eq (m.number r o) (m.number s p) && same_flag (m.flag r o) (m.flag s p)

-- a relation has at each object of the set what `given` has at place 0, and else what `old` has
abbrev pub is_changed : Reading → RelVar → ValueSet → RelVar → RelVar → Bool
is_changed m new s given old =
    list_all (λ o. if has_object s o then same_at m new o given 0 else same_at m new o old o) (numbers_below m.objects)

abbrev pub step_formula : Formula-F (Reading → Bool) → Reading → Bool
step_formula (Formula-F.Const b) m = b
step_formula (Formula-F.Flag r) m = m.flag r 0
step_formula (Formula-F.FlagAt e r) m = option_map_or (m.flag r) (only_object m (set_of e m)) false
step_formula (Formula-F.Subset e f) m = is_subset m (set_of e m) (set_of f m)
step_formula (Formula-F.IsClass e c r) m = are_of m (set_of e m) c r
step_formula (Formula-F.SameNum a b) m = with_both (number_of a m) (number_of b m) int_eq false
step_formula (Formula-F.BelowNum a b) m = with_both (number_of a m) (number_of b m) int_lt false
step_formula (Formula-F.Fits a) m = is_some (number_of a m)
step_formula (Formula-F.Changed new e given old) m = is_changed m new (set_of e m) given old
step_formula (Formula-F.Not p) m = not (p m)
step_formula (Formula-F.And ps) m = list_all (λ p. p m) ps
step_formula (Formula-F.Or ps) m = list_any (λ p. p m) ps
step_formula (Formula-F.Same p q) m = same_flag (p m) (q m)

-- the formula holds under a reading
abbrev pub holds : Formula → Reading → Bool
holds = fold-Formula (Reading → Bool) step_formula

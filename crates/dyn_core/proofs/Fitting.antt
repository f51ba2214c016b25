-- Kinds that fit: what they say of variables, and of what evaluations give.
use Rattle.std.proofs.Common.{◌≡◌, Bool, true, false, ◌&&◌, List, Option, Some, None, ℕ, refl, sym, ◌∙◌, ap}
use Rattle.std.specs.Prelude.{ℤ, if◌then◌else◌, slice_get}
use Rattle.std.specs.List.{list_all}
use Rattle.std.specs.Option.{option_map_or}
use Rattle.std.proofs.lemmas.Bool.{false≢true, eqb-true, and_parts}
use Rattle.taco_unit.specs.declared.kind.Kind.{Kind}
use Rattle.taco_unit.specs.declared.kind.Kind.TheVariants.{Int, Flag, Ref}
use Rattle.taco_unit.specs.declared.unit.FieldDef.{FieldDef}
use Rattle.taco_unit.specs.Kinds.{same_kind}
use Rattle.taco_unit.specs.Parts.{Parts}
use Rattle.taco_unit.specs.Well.{IsWell}
use Rattle.heap_core.specs.declared.value.Value.{Value}
use Rattle.heap_core.specs.declared.value.Value.TheVariants as v
use Rattle.heap_core.specs.declared.value.Seen.{Seen}
use Rattle.heap_core.specs.declared.value.Seen.TheVariants.{Is, Bad, Out}
use Rattle.heap_core.specs.Outcomes.{in_bits, number, on_numbers, same}
use Rattle.heap_core.specs.Heap.{Heap, field}
use Rattle.heap_core.specs.Start.{has_kind, is_whole}
use Rattle.heap_core.proofs.GivenFields.{gives_kind, field_given}
use Rattle.dyn_core.specs.Actions.{constant}
use Rattle.dyn_core.specs.Kinds.{is_var, are_alike, takes_constant, fit_field, are_numbers}

-- ## kinds of variables

kinds_same : (k l : Kind) → same_kind k l ≡ true → k ≡ l
kinds_same Int Int is = refl
kinds_same Int Flag is = absurd (false≢true is)
kinds_same Int (Ref d) is = absurd (false≢true is)
kinds_same Flag Int is = absurd (false≢true is)
kinds_same Flag Flag is = refl
kinds_same Flag (Ref d) is = absurd (false≢true is)
kinds_same (Ref c) Int is = absurd (false≢true is)
kinds_same (Ref c) Flag is = absurd (false≢true is)
kinds_same (Ref c) (Ref d) is = ap Ref (eqb-true c d is)

-- a test that passes of an item that may be missing
pub there_passes : {A : Type 0} (test : A → Bool) (o : Option A) → option_map_or test o false ≡ true → (x : A) × (o ≡ Some x) × (test x ≡ true)
there_passes test None is = absurd (false≢true is)
there_passes test (Some x) is = (x, refl, is)

pub var_is : (kinds : List Kind) (x : ℕ) (k : Kind) → is_var kinds x k ≡ true → slice_get kinds x ≡ Some k
var_is kinds x k is =
    let found = there_passes (same_kind k) (slice_get kinds x) is in
    found.1 ∙ ap Some (sym (kinds_same k found.0 found.2))

-- the one kind of two variables
pub alike_is : (kinds : List Kind) (x y : ℕ) → are_alike kinds x y ≡ true → (k : Kind) × (slice_get kinds x ≡ Some k) × (slice_get kinds y ≡ Some k)
alike_is kinds x y is =
    let found = there_passes (is_var kinds x) (slice_get kinds y) is in
    (found.0, var_is kinds x found.0 found.2, found.1)

-- three variables that fit an operator on numbers: the kind of the first
pub first_is : (kinds : List Kind) (x : ℕ) (k : Kind) (y z : ℕ) → are_numbers kinds x k y z ≡ true → slice_get kinds x ≡ Some k
first_is kinds x k y z fits =
    let both = and_parts (is_var kinds x k && is_var kinds y Int) (is_var kinds z Int) fits in
    var_is kinds x k (and_parts (is_var kinds x k) (is_var kinds y Int) both.0).0

-- the field of two variables that fit it, and their kinds
pub record IsFieldOf (u : Parts) (kinds : List Kind) (f x y : ℕ) : Type 0 where
  pub declared : FieldDef
  pub there : slice_get u.fields f ≡ Some declared
  pub object : slice_get kinds x ≡ Some (Ref declared.class)
  pub value : slice_get kinds y ≡ Some declared.kind

pub field_is : (u : Parts) (kinds : List Kind) (f x y : ℕ) → fit_field u kinds f x y ≡ true → IsFieldOf u kinds f x y
field_is u kinds f x y is =
    let found = there_passes (λ d. is_var kinds x (Ref d.class) && is_var kinds y d.kind) (slice_get u.fields f) is in
    let d = found.0 in
    let both = and_parts (is_var kinds x (Ref d.class)) (is_var kinds y d.kind) found.2 in
    record { declared = d; there = found.1; object = var_is kinds x (Ref d.class) both.0; value = var_is kinds y d.kind both.1 }

-- ## what evaluations give

-- the evaluation gives no value of another kind
abbrev pub gives_only : ℕ → Heap → Kind → Seen → Bool
gives_only w heap k (Is u) = has_kind w heap k u
gives_only w heap k _ = true

pub number_only : (w : ℕ) (heap : Heap) (z : ℤ) → gives_only w heap Int (number w z) ≡ true
number_only w heap z = at (in_bits w z) refl
  where
    at : (b : Bool) → in_bits w z ≡ b → gives_only w heap Int (if b then Is (v.Num z) else Out) ≡ true
    at true is = is
    at false is = refl

pub numbers_only :
    (w : ℕ) (heap : Heap) (k : Kind) (make : ℤ → ℤ → Seen)
    → ((x y : ℤ) → gives_only w heap k (make x y) ≡ true)
    → (a b : Value)
    → gives_only w heap k (on_numbers make a b) ≡ true
numbers_only w heap k make each (v.Num x) (v.Num y) = each x y
numbers_only w heap k make each (v.Num x) v.Null = refl
numbers_only w heap k make each (v.Num x) (v.Obj p) = refl
numbers_only w heap k make each (v.Num x) (v.Flag c) = refl
numbers_only w heap k make each v.Null b = refl
numbers_only w heap k make each (v.Obj o) b = refl
numbers_only w heap k make each (v.Flag c) b = refl

pub same_only : (w : ℕ) (heap : Heap) (a b : Value) → gives_only w heap Flag (same a b) ≡ true
same_only w heap v.Null v.Null = refl
same_only w heap v.Null (v.Obj p) = refl
same_only w heap v.Null (v.Num y) = refl
same_only w heap v.Null (v.Flag c) = refl
same_only w heap (v.Obj o) v.Null = refl
same_only w heap (v.Obj o) (v.Obj p) = refl
same_only w heap (v.Obj o) (v.Num y) = refl
same_only w heap (v.Obj o) (v.Flag c) = refl
same_only w heap (v.Num x) v.Null = refl
same_only w heap (v.Num x) (v.Obj p) = refl
same_only w heap (v.Num x) (v.Num y) = refl
same_only w heap (v.Num x) (v.Flag c) = refl
same_only w heap (v.Flag a) v.Null = refl
same_only w heap (v.Flag a) (v.Obj p) = refl
same_only w heap (v.Flag a) (v.Num y) = refl
same_only w heap (v.Flag a) (v.Flag c) = refl

pub constant_only : (w : ℕ) (heap : Heap) (c : Value) (k : Kind) → takes_constant c k ≡ true → gives_only w heap k (constant w c) ≡ true
constant_only w heap (v.Num z) Int is = number_only w heap z
constant_only w heap (v.Num z) Flag is = absurd (false≢true is)
constant_only w heap (v.Num z) (Ref c) is = absurd (false≢true is)
constant_only w heap (v.Flag b) Flag is = refl
constant_only w heap (v.Flag b) Int is = absurd (false≢true is)
constant_only w heap (v.Flag b) (Ref c) is = absurd (false≢true is)
constant_only w heap v.Null (Ref c) is = refl
constant_only w heap v.Null Int is = absurd (false≢true is)
constant_only w heap v.Null Flag is = absurd (false≢true is)
constant_only w heap (v.Obj o) k is = refl

given_only : (w : ℕ) (heap : Heap) (k : Kind) (s : Seen) → gives_kind w heap k s ≡ true → gives_only w heap k s ≡ true
given_only w heap k (Is u) is = is
given_only w heap k Bad is = refl
given_only w heap k Out is = refl

-- a field of null or of an object of its class
pub field_only :
    (u : Parts)
    → IsWell u
    → (w : ℕ) (heap : Heap)
    → list_all (is_whole u w heap) heap ≡ true
    → (f : ℕ) (g : FieldDef)
    → slice_get u.fields f ≡ Some g
    → (a : Value)
    → has_kind w heap (Ref g.class) a ≡ true
    → gives_only w heap g.kind (field u.classes heap f a) ≡ true
field_only u well w heap whole f g is v.Null of = refl
field_only u well w heap whole f g is (v.Obj o) of =
    given_only w heap g.kind (field u.classes heap f (v.Obj o)) ((field_given u well w heap whole f g is o).value ∙ of)
field_only u well w heap whole f g is (v.Num z) of = absurd (false≢true of)
field_only u well w heap whole f g is (v.Flag b) of = absurd (false≢true of)

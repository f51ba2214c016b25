-- A list that holds each object once gives a naming, and the start that it renumbers is the start under it.
use Rattle.std.proofs.Common.{◌≡◌, ℕ, zero, suc, ◌<◌, ◌≤◌, Bool, true, false, cond, eqb, ◌&&◌, List, [], ◌∷◌, length, map, Option, Some, None, refl, sym, ◌∙◌, ap, subst, inl, inr, arith, get_or}
use Rattle.std.specs.Prelude.{slice_get, option_map, option_and_then, filter_map, nat_lt}
use Rattle.std.specs.Option.{option_map_or}
use Rattle.std.specs.Cmp.Lexicographic.{pointwise}
use Rattle.std.proofs.lemmas.Bool.{cases_lt, false≢true, lt-ltb, le-ltb}
use Rattle.std.proofs.lemmas.Option.{slice_get_past, slice_get-get_or, get_or_from_slice_get}
use Rattle.taco_unit.specs.declared.kind.Kind.{Kind}
use Rattle.taco_unit.specs.declared.kind.Kind.TheVariants as kind
use Rattle.taco_unit.specs.declared.unit.ClassDef.{ClassDef}
use Rattle.taco_unit.specs.declared.unit.FieldDef.{FieldDef}
use Rattle.taco_unit.specs.declared.unit.MethodDef.{MethodDef}
use Rattle.heap_core.specs.declared.value.Value.{Value}
use Rattle.heap_core.specs.declared.value.Value.TheVariants.{Null, Obj, Num, Flag}
use Rattle.heap_core.specs.declared.value.Object.{Object}
use Rattle.heap_core.specs.declared.start.Start.{Start}
use Rattle.heap_core.specs.Posed.{Posed}
use Rattle.heap_core.specs.Heap.{Heap, is_of}
use Rattle.heap_core.specs.Start.{has_kind, has_field_kind, is_whole, is_receiver, is_argument, method_of, Fits}
use Rattle.canonical_order.specs.Canonical.{HoldsEachOnce, number_in, renamed, renamed_object, renumbered}
use Rattle.heap_symmetry.specs.Renaming.{IsNaming, value_as, object_as, IsRenamedStart}
use Rattle.canonical_order.proofs.NumbersLemmas.{numbered}
use Rattle.heap_symmetry.proofs.Fitting.{all_at}

-- ## the naming

-- below the length of the list its places and what stands there; above it each number is its own
abbrev pub named : List ℕ → ℕ → ℕ
named order o = cond (nat_lt o (length order)) (number_in order o) o

abbrev pub at_place : List ℕ → ℕ → ℕ
at_place order i = cond (nat_lt i (length order)) (get_or order i 0) i

pub named_low : (order : List ℕ) (o : ℕ) → o < length order → named order o ≡ number_in order o
named_low order o low = rw (lt-ltb o (length order) low) refl

named_high : (order : List ℕ) (o : ℕ) → length order ≤ o → named order o ≡ o
named_high order o high = rw (le-ltb o (length order) high) refl

at_low : (order : List ℕ) (i : ℕ) → i < length order → at_place order i ≡ get_or order i 0
at_low order i low = rw (lt-ltb i (length order) low) refl

at_high : (order : List ℕ) (i : ℕ) → length order ≤ i → at_place order i ≡ i
at_high order i high = rw (le-ltb i (length order) high) refl

pub naming_of : (order : List ℕ) (n : ℕ) → HoldsEachOnce order n → IsNaming (named order) (at_place order)
naming_of order n once = record {
  there = λ i. elim (cases_lt i (length order)) [
    | inl low ↦
        let o = get_or order i 0 in
        let there : slice_get order i ≡ Some o = slice_get-get_or order i 0 low in
        let small : o < length order = omega (arith, once.within i o there, once.as_many) in
        ap (named order) (at_low order i low) ∙ named_low order o small ∙ numbered order n once i o there
    | inr high ↦ ap (named order) (at_high order i high) ∙ named_high order i high
  ];
  back = λ o. elim (cases_lt o (length order)) [
    | inl low ↦
        let at = once.each o (omega (arith, low, once.as_many)) in
        let there : slice_get order at.0 ≡ Some o = slice_get-get_or order at.0 o at.1 ∙ ap Some at.2 in
        let place : number_in order o ≡ at.0 = numbered order n once at.0 o there in
        ap (at_place order) (named_low order o low ∙ place) ∙ at_low order at.0 at.1 ∙ get_or_from_slice_get order at.0 o 0 there
    | inr high ↦ ap (at_place order) (named_high order o high) ∙ at_high order o high
  ];
}

-- ## the renumbered start

-- the value is no object past the heap
abbrev pub IsIn : ℕ → Value → Type 0
IsIn k v = (o : ℕ) → v ≡ Obj o → o < k

pub renamed_as : (order : List ℕ) (v : Value) → IsIn (length order) v → renamed order v ≡ value_as (named order) v
renamed_as order (Obj o) low = ap Obj (sym (named_low order o (low o refl)))
renamed_as order Null low = refl
renamed_as order (Num z) low = refl
renamed_as order (Flag b) low = refl

all_renamed_as : (order : List ℕ) (vs : List Value) → ((i : ℕ) (v : Value) → slice_get vs i ≡ Some v → IsIn (length order) v) → map (renamed order) vs ≡ map (value_as (named order)) vs
all_renamed_as order [] low = refl
all_renamed_as order (v ∷ vs) low = rw (renamed_as order v (low 0 v refl), all_renamed_as order vs (λ i u there. low (suc i) u there)) refl

-- what has a kind is no object past the heap
inside_of : (h : Heap) (c o : ℕ) → is_of h c o ≡ true → o < length h
inside_of h c o is = elim (cases_lt o (length h)) [
  | inl fine ↦ fine
  | inr past ↦ absurd (false≢true (sym (ap (λ x. option_map_or (λ (y : Object). eqb y.class c) x false) (slice_get_past h o past)) ∙ is))
]

kind_in : (w : ℕ) (h : Heap) (k : Kind) (v : Value) → has_kind w h k v ≡ true → IsIn (length h) v
kind_in w h (kind.Ref c) (Obj o) is q same =
    let e : o ≡ q = cc in
    omega (arith, inside_of h c o is, e)
kind_in w h kind.Int (Obj o) is q same = absurd (false≢true is)
kind_in w h kind.Flag (Obj o) is q same = absurd (false≢true is)
kind_in w h k Null is q same = absurd (cc)
kind_in w h k (Num z) is q same = absurd (cc)
kind_in w h k (Flag b) is q same = absurd (cc)

pointwise_in : {A : Type 0} (f : A → Value → Bool) (k : ℕ) → ((x : A) (v : Value) → f x v ≡ true → IsIn k v) → (xs : List A) (vs : List Value) → pointwise f xs vs ≡ true → (i : ℕ) (v : Value) → slice_get vs i ≡ Some v → IsIn k v
pointwise_in f k each [] [] ok i v there = absurd (cc)
pointwise_in f k each [] (u ∷ vs) ok i v there = absurd (false≢true ok)
pointwise_in f k each (x ∷ xs) [] ok i v there = absurd (cc)
pointwise_in f k each (x ∷ xs) (u ∷ vs) ok zero v there =
    let same : u ≡ v = cc in
    each x v (subst (λ z. f x z ≡ true) same (first (f x u) (pointwise f xs vs) ok))
  where
    first : (b c : Bool) → (b && c) ≡ true → b ≡ true
    first true c is = refl
    first false c is = is
pointwise_in f k each (x ∷ xs) (u ∷ vs) ok (suc i) v there = pointwise_in f k each xs vs (rest (f x u) (pointwise f xs vs) ok) i v there
  where
    rest : (b c : Bool) → (b && c) ≡ true → c ≡ true
    rest true c is = is
    rest false c is = absurd (false≢true is)

field_kind_in : (fields : List FieldDef) (w : ℕ) (h : Heap) (f : ℕ) (v : Value) → has_field_kind fields w h f v ≡ true → IsIn (length h) v
field_kind_in fields w h f v = go (slice_get fields f)
  where
    go : (d : Option FieldDef) → option_map_or (λ (x : FieldDef). has_kind w h x.kind v) d false ≡ true → IsIn (length h) v
    go None is = absurd (false≢true is)
    go (Some d) is = kind_in w h d.kind v is

pub cells_in : (p : Posed) (s : Start) → Fits s p → (o : ℕ) (x : Object) → slice_get s.objects o ≡ Some x → (i : ℕ) (v : Value) → slice_get x.cells i ≡ Some v → IsIn (length s.objects) v
cells_in p s fits o x there = go (slice_get p.unit.classes x.class) (all_at (is_whole p.unit p.scope.ints s.objects) s.objects fits.objects_whole o x there)
  where
    go : (d : Option ClassDef) → option_map_or (λ (c : ClassDef). pointwise (has_field_kind p.unit.fields p.scope.ints s.objects) c.fields x.cells) d false ≡ true → (i : ℕ) (v : Value) → slice_get x.cells i ≡ Some v → IsIn (length s.objects) v
    go None is = absurd (false≢true is)
    go (Some d) is = pointwise_in (has_field_kind p.unit.fields p.scope.ints s.objects) (length s.objects) (field_kind_in p.unit.fields p.scope.ints s.objects) d.fields x.cells is

receiver_in : (h : Heap) (class : ℕ) (fixed : Bool) (v : Value) → is_receiver h class fixed v ≡ true → IsIn (length h) v
receiver_in h class true Null is q same = absurd (cc)
receiver_in h class true (Obj o) is q same = absurd (false≢true is)
receiver_in h class true (Num z) is q same = absurd (cc)
receiver_in h class true (Flag b) is q same = absurd (cc)
receiver_in h class false Null is q same = absurd (cc)
receiver_in h class false (Obj o) is q same =
    let e : o ≡ q = cc in
    omega (arith, inside_of h class o is, e)
receiver_in h class false (Num z) is q same = absurd (cc)
receiver_in h class false (Flag b) is q same = absurd (cc)

this_in : (p : Posed) (s : Start) → Fits s p → IsIn (length s.objects) s.this
this_in p s fits = go (method_of p) fits.receiver
  where
    go : (m : Option MethodDef) → option_map_or (λ (d : MethodDef). is_receiver s.objects d.class d.fixed s.this) m false ≡ true → IsIn (length s.objects) s.this
    go None is = absurd (false≢true is)
    go (Some d) is = receiver_in s.objects d.class d.fixed s.this is

args_in : (p : Posed) (s : Start) → Fits s p → (i : ℕ) (v : Value) → slice_get s.args i ≡ Some v → IsIn (length s.objects) v
args_in p s fits = go (method_of p) fits.arguments
  where
    go : (m : Option MethodDef) → option_map_or (λ (d : MethodDef). pointwise (is_argument p.scope.ints s.objects) d.params s.args) m false ≡ true → (i : ℕ) (v : Value) → slice_get s.args i ≡ Some v → IsIn (length s.objects) v
    go None is = absurd (false≢true is)
    go (Some d) is = pointwise_in (is_argument p.scope.ints s.objects) (length s.objects) (λ q v. kind_in p.scope.ints s.objects q.kind v) d.params s.args is

-- where each element gives something, it stands at the element's place
total_map : {A B : Type 0} (g : A → Option B) (xs : List A) → ((i : ℕ) (x : A) → slice_get xs i ≡ Some x → (y : B) × (g x ≡ Some y)) → (i : ℕ) → slice_get (filter_map g xs) i ≡ option_and_then g (slice_get xs i)
total_map g [] each i = refl
total_map g (x ∷ xs) each zero = let here = each 0 x refl in rw here.1 refl
total_map g (x ∷ xs) each (suc i) = let here = each 0 x refl in rw here.1 (total_map g xs (λ j z there. each (suc j) z there) i)

total_length : {A B : Type 0} (g : A → Option B) (xs : List A) → ((i : ℕ) (x : A) → slice_get xs i ≡ Some x → (y : B) × (g x ≡ Some y)) → length (filter_map g xs) ≡ length xs
total_length g [] each = refl
total_length g (x ∷ xs) each =
    let here = each 0 x refl in
    rw here.1 (ap suc (total_length g xs (λ j z there. each (suc j) z there)))

object_renamed : (order : List ℕ) (x : Object) → ((i : ℕ) (v : Value) → slice_get x.cells i ≡ Some v → IsIn (length order) v) → renamed_object order x ≡ object_as (named order) x
object_renamed order x low = ap (λ cs. record x { cells = cs }) (all_renamed_as order x.cells low)

-- the renumbered start is the start under the naming
pub renumbered_as : (p : Posed) (s : Start) (order : List ℕ) → Fits s p → HoldsEachOnce order (length s.objects) → IsRenamedStart (named order) s (renumbered s order)
renumbered_as p s order fits once = record {
  heap = record {
    as_many = total_length g order total ∙ once.as_many;
    objects = λ o. elim (cases_lt o (length order)) [
      | inl low ↦
          let at = once.each o (omega (arith, low, once.as_many)) in
          let there : slice_get order at.0 ≡ Some o = slice_get-get_or order at.0 o at.1 ∙ ap Some at.2 in
          let name : named order o ≡ at.0 = named_low order o low ∙ numbered order (length s.objects) once at.0 o there in
          ap (slice_get (filter_map g order)) name ∙ total_map g order total at.0 ∙ ap (option_and_then g) there ∙ renamed_at o
      | inr high ↦
          slice_get_past (filter_map g order) (named order o) (omega (arith, named_high order o high, high, total_length g order total)) ∙ ap (option_map (object_as (named order))) (sym (slice_get_past s.objects o (omega (arith, high, once.as_many))))
    ];
    past = λ o beyond. named_high order o (omega (arith, beyond, once.as_many));
  };
  this = renamed_as order s.this (λ o same. omega (arith, this_in p s fits o same, once.as_many));
  args = all_renamed_as order s.args (λ i v there o same. omega (arith, args_in p s fits i v there o same, once.as_many));
}
  where
    g : ℕ → Option Object
    g o = option_map (renamed_object order) (slice_get s.objects o)

    total : (i : ℕ) (o : ℕ) → slice_get order i ≡ Some o → (y : Object) × (g o ≡ Some y)
    total i o there = of (slice_get s.objects o) refl
      where
        inside : o < length s.objects
        inside = once.within i o there

        of : (x : Option Object) → slice_get s.objects o ≡ x → (y : Object) × (g o ≡ Some y)
        of None none = absurd (lacks s.objects o inside none)
          where
            lacks : (h : Heap) (q : ℕ) → q < length h → slice_get h q ≡ None → ⊥
            lacks [] q low is = omega (arith, low)
            lacks (x ∷ h) zero low is = cc
            lacks (x ∷ h) (suc q) low is = lacks h q (omega (arith, low)) is
        of (Some x) some_ = (renamed_object order x, ap (option_map (renamed_object order)) some_)

    renamed_at : (o : ℕ) → g o ≡ option_map (object_as (named order)) (slice_get s.objects o)
    renamed_at o = of (slice_get s.objects o) refl
      where
        of : (x : Option Object) → slice_get s.objects o ≡ x → option_map (renamed_object order) x ≡ option_map (object_as (named order)) x
        of None none = refl
        of (Some x) some_ = ap Some (object_renamed order x (λ i v there q same. omega (arith, cells_in p s fits o x some_ i v there q same, once.as_many)))

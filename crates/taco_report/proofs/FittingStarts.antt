-- The text of a start that fits its problem: all of its lines are right.
use Rattle.std.proofs.Common.{◌≡◌, ℕ, ◌-◌, ◌^◌, ◌<◌, ◌≤◌, Bool, true, false, Option, Some, None, List, [], ◌∷◌, length, refl, arith}
use Rattle.std.specs.Prelude.{ℤ, pos, negsuc, slice_get, ◌==◌}
use Rattle.std.specs.List.{list_all}
use Rattle.std.specs.Option.{option_map_or}
use Rattle.std.specs.Cmp.Lexicographic.{pointwise}
use Rattle.std.proofs.Math.Nat.{pow-le-pow_right}
use Rattle.std.proofs.lemmas.Bool.{and_parts, and_from, false≢true, lt-ltb, ltb-true}
use Rattle.std.proofs.lemmas.Option.{slice_get_within}
use Rattle.taco_unit.specs.declared.kind.Kind.{Kind}
use Rattle.taco_unit.specs.declared.kind.Kind.TheVariants as kind
use Rattle.taco_unit.specs.declared.unit.ClassDef.{ClassDef}
use Rattle.taco_unit.specs.declared.unit.FieldDef.{FieldDef}
use Rattle.taco_unit.specs.declared.unit.MethodDef.{MethodDef}
use Rattle.taco_unit.specs.Parts.{Parts}
use Rattle.heap_core.specs.declared.value.Value.{Value}
use Rattle.heap_core.specs.declared.value.Value.TheVariants.{Null, Obj, Num, Flag}
use Rattle.heap_core.specs.declared.value.Object.{Object}
use Rattle.heap_core.specs.declared.start.Start.{Start}
use Rattle.heap_core.specs.Heap.{Heap, is_of}
use Rattle.heap_core.specs.Outcomes.{in_bits}
use Rattle.heap_core.specs.Posed.{InRange, Posed}
use Rattle.heap_core.specs.Start.{Fits, has_field_kind, has_kind, is_argument, is_receiver, is_whole, method_of}
use Rattle.taco_report.specs.Texts.{state_text}
use Rattle.taco_report.specs.States.{IsStateText, is_cell, is_given, is_listed, is_named, is_value}

-- what passes the one test pairwise passes the other
pointwise_weaker : {A B : Type 0} (p q : A → B → Bool) → ((x : A) (y : B) → p x y ≡ true → q x y ≡ true) → (xs : List A) (ys : List B) → pointwise p xs ys ≡ true → pointwise q xs ys ≡ true
pointwise_weaker p q weaker [] [] all = refl
pointwise_weaker p q weaker [] (y ∷ ys) all = absurd (false≢true all)
pointwise_weaker p q weaker (x ∷ xs) [] all = absurd (false≢true all)
pointwise_weaker p q weaker (x ∷ xs) (y ∷ ys) all =
    let parts : (p x y ≡ true) × (pointwise p xs ys ≡ true) = and_parts (p x y) (pointwise p xs ys) all in
    and_from (q x y) _ (weaker x y parts.0) (pointwise_weaker p q weaker xs ys parts.1)

powers : (i j : ℕ) → i ≤ j → 2 ^ i ≤ 2 ^ j
powers i j less = let two : 0 < 2 = omega arith in pow-le-pow_right two less

-- a number of at most 16 bits is one of 32
widened : (w : ℕ) (z : ℤ) → w ≤ 16 → in_bits w z ≡ true → in_bits 32 z ≡ true
widened w (pos m) narrow is =
    let power : 2 ^ (w - 1) ≤ 2 ^ 31 = powers (w - 1) 31 (omega arith) in
    lt-ltb m (2 ^ 31) (omega (arith, power, ltb-true m (2 ^ (w - 1)) is))
widened w (negsuc m) narrow is =
    let power : 2 ^ (w - 1) ≤ 2 ^ 31 = powers (w - 1) 31 (omega arith) in
    lt-ltb m (2 ^ 31) (omega (arith, power, ltb-true m (2 ^ (w - 1)) is))

-- an object of a class is one of the heap
within_heap : (heap : Heap) (class o : ℕ) → is_of heap class o ≡ true → o < length heap
within_heap heap class o is = by_object (slice_get heap o) refl is
  where
    by_object : (r : Option Object) → slice_get heap o ≡ r → option_map_or (λ x. x.class == class) r false ≡ true → o < length heap
    by_object None there h = absurd (false≢true h)
    by_object (Some x) there h = slice_get_within heap o x there

kind_written : (w : ℕ) (heap : Heap) (k : Kind) (v : Value) → w ≤ 16 → has_kind w heap k v ≡ true → is_value (length heap) k v ≡ true
kind_written w heap kind.Int Null narrow is = absurd (false≢true is)
kind_written w heap kind.Int (Obj o) narrow is = absurd (false≢true is)
kind_written w heap kind.Int (Num z) narrow is = widened w z narrow is
kind_written w heap kind.Int (Flag b) narrow is = absurd (false≢true is)
kind_written w heap kind.Flag Null narrow is = absurd (false≢true is)
kind_written w heap kind.Flag (Obj o) narrow is = absurd (false≢true is)
kind_written w heap kind.Flag (Num z) narrow is = absurd (false≢true is)
kind_written w heap kind.Flag (Flag b) narrow is = refl
kind_written w heap (kind.Ref c) Null narrow is = refl
kind_written w heap (kind.Ref c) (Obj o) narrow is = lt-ltb o (length heap) (within_heap heap c o is)
kind_written w heap (kind.Ref c) (Num z) narrow is = absurd (false≢true is)
kind_written w heap (kind.Ref c) (Flag b) narrow is = absurd (false≢true is)

cell_written : (u : Parts) (w : ℕ) (heap : Heap) → w ≤ 16 → (f : ℕ) (v : Value) → has_field_kind u.fields w heap f v ≡ true → is_cell u (length heap) f v ≡ true
cell_written u w heap narrow f v is = by_field (slice_get u.fields f) is
  where
    by_field : (o : Option FieldDef) → option_map_or (λ d. has_kind w heap d.kind v) o false ≡ true → option_map_or (λ d. is_value (length heap) d.kind v) o false ≡ true
    by_field None h = h
    by_field (Some d) h = kind_written w heap d.kind v narrow h

object_written : (u : Parts) (w : ℕ) (heap : Heap) (x : Object) → w ≤ 16 → is_whole u w heap x ≡ true → is_listed u (length heap) x ≡ true
object_written u w heap x narrow is = by_class (slice_get u.classes x.class) is
  where
    by_class : (o : Option ClassDef) → option_map_or (λ d. pointwise (has_field_kind u.fields w heap) d.fields x.cells) o false ≡ true
        → option_map_or (λ d. pointwise (is_cell u (length heap)) d.fields x.cells) o false ≡ true
    by_class None h = h
    by_class (Some d) h = pointwise_weaker (has_field_kind u.fields w heap) (is_cell u (length heap)) (cell_written u w heap narrow) d.fields x.cells h

objects_written : (u : Parts) (w : ℕ) (heap : Heap) (xs : List Object) → w ≤ 16 → list_all (is_whole u w heap) xs ≡ true → list_all (is_listed u (length heap)) xs ≡ true
objects_written u w heap [] narrow all = refl
objects_written u w heap (x ∷ xs) narrow all =
    let parts : (is_whole u w heap x ≡ true) × (list_all (is_whole u w heap) xs ≡ true) = and_parts (is_whole u w heap x) (list_all (is_whole u w heap) xs) all in
    and_from (is_listed u (length heap) x) _ (object_written u w heap x narrow parts.0) (objects_written u w heap xs narrow parts.1)

named_written : (heap : Heap) (class : ℕ) (fixed : Bool) (v : Value) → is_receiver heap class fixed v ≡ true → is_named (length heap) fixed v ≡ true
named_written heap class true Null is = refl
named_written heap class true (Obj o) is = absurd (false≢true is)
named_written heap class true (Num z) is = absurd (false≢true is)
named_written heap class true (Flag b) is = absurd (false≢true is)
named_written heap class false Null is = absurd (false≢true is)
named_written heap class false (Obj o) is = lt-ltb o (length heap) (within_heap heap class o is)
named_written heap class false (Num z) is = absurd (false≢true is)
named_written heap class false (Flag b) is = absurd (false≢true is)

receiver_written : (heap : Heap) (v : Value) (o : Option MethodDef) → option_map_or (λ m. is_receiver heap m.class m.fixed v) o false ≡ true → option_map_or (λ m. is_named (length heap) m.fixed v) o false ≡ true
receiver_written heap v None is = is
receiver_written heap v (Some m) is = named_written heap m.class m.fixed v is

arguments_written : (w : ℕ) (heap : Heap) (vs : List Value) (o : Option MethodDef) → w ≤ 16 → option_map_or (λ m. pointwise (is_argument w heap) m.params vs) o false ≡ true
    → pointwise (is_given (length heap)) (option_map_or (λ m. m.params) o []) vs ≡ true
arguments_written w heap vs None narrow are = absurd (false≢true are)
arguments_written w heap vs (Some m) narrow are = pointwise_weaker (is_argument w heap) (is_given (length heap)) (λ q v. kind_written w heap q.kind v narrow) m.params vs are

-- all lines of the text of a start that fits are right
pub fitting_text : (p : Posed) (text : List ℕ) (s : Start) → InRange p → Fits s p → text ≡ state_text p s → IsStateText p text s
fitting_text p text s range fits is =
    record {
      few = omega (arith, fits.few_objects, range.scope.objects_high);
      objects = objects_written p.unit p.scope.ints s.objects s.objects range.scope.ints_high fits.objects_whole;
      receiver = receiver_written s.objects s.this (method_of p) fits.receiver;
      arguments = arguments_written p.scope.ints s.objects s.args (method_of p) range.scope.ints_high fits.arguments;
      text_is = is;
    }

-- A start under the new numbers fits where the start does.
use Rattle.std.proofs.Common.{◌≡◌, ℕ, zero, suc, ◌<◌, Bool, true, false, ◌&&◌, List, [], ◌∷◌, length, map, Option, Some, None, refl, sym, ◌∙◌, ap, subst, inl, inr, arith}
use Rattle.std.specs.Prelude.{slice_get, option_map, Contains}
use Rattle.std.specs.List.{list_all}
use Rattle.std.specs.Option.{option_map_or}
use Rattle.std.specs.Cmp.Lexicographic.{pointwise}
use Rattle.std.proofs.lemmas.Bool.{cases_lt, false≢true}
use Rattle.std.proofs.lemmas.Option.{slice_get_within, slice_get-get_or, get_or_from_slice_get, slice_get-map}
use Rattle.taco_unit.specs.declared.kind.Kind.{Kind}
use Rattle.taco_unit.specs.declared.kind.Kind.TheVariants as kind
use Rattle.taco_unit.specs.declared.unit.ClassDef.{ClassDef}
use Rattle.taco_unit.specs.declared.unit.FieldDef.{FieldDef}
use Rattle.taco_unit.specs.declared.unit.MethodDef.{MethodDef}
use Rattle.taco_unit.specs.Parts.{Parts}
use Rattle.heap_core.specs.declared.value.Value.{Value}
use Rattle.heap_core.specs.declared.value.Value.TheVariants.{Null, Obj, Num, Flag}
use Rattle.heap_core.specs.declared.value.Object.{Object}
use Rattle.heap_core.specs.declared.start.Start.{Start}
use Rattle.heap_core.specs.Posed.{Posed}
use Rattle.heap_core.specs.Heap.{Heap}
use Rattle.heap_core.specs.Start.{has_kind, has_field_kind, is_whole, is_receiver, is_argument, method_of, Reached, root, held, Fits}
use Rattle.heap_symmetry.specs.Renaming.{IsNaming, value_as, object_as, IsRenamed, IsRenamedStart}
use Rattle.heap_symmetry.proofs.Evaluated.{class_as}

kind_as : {n : ℕ → ℕ} {h j : Heap} → IsRenamed n h j → (w : ℕ) (k : Kind) (v : Value) → has_kind w j k (value_as n v) ≡ has_kind w h k v
kind_as is w kind.Int Null = refl
kind_as is w kind.Int (Obj o) = refl
kind_as is w kind.Int (Num z) = refl
kind_as is w kind.Int (Flag b) = refl
kind_as is w kind.Flag Null = refl
kind_as is w kind.Flag (Obj o) = refl
kind_as is w kind.Flag (Num z) = refl
kind_as is w kind.Flag (Flag b) = refl
kind_as is w (kind.Ref c) Null = refl
kind_as is w (kind.Ref c) (Obj o) = class_as is c o
kind_as is w (kind.Ref c) (Num z) = refl
kind_as is w (kind.Ref c) (Flag b) = refl

field_kind_as : {n : ℕ → ℕ} {h j : Heap} → IsRenamed n h j → (fields : List FieldDef) (w f : ℕ) (v : Value) → has_field_kind fields w j f (value_as n v) ≡ has_field_kind fields w h f v
field_kind_as {n} {h} {j} is fields w f v = go (slice_get fields f)
  where
    go : (d : Option FieldDef) → option_map_or (λ (x : FieldDef). has_kind w j x.kind (value_as n v)) d false ≡ option_map_or (λ (x : FieldDef). has_kind w h x.kind v) d false
    go None = refl
    go (Some d) = kind_as is w d.kind v

pointwise_as : {A : Type 0} (n : ℕ → ℕ) (f g : A → Value → Bool) → ((x : A) (v : Value) → g x (value_as n v) ≡ f x v) → (xs : List A) (vs : List Value) → pointwise g xs (map (value_as n) vs) ≡ pointwise f xs vs
pointwise_as n f g same [] [] = refl
pointwise_as n f g same [] (v ∷ vs) = refl
pointwise_as n f g same (x ∷ xs) [] = refl
pointwise_as n f g same (x ∷ xs) (v ∷ vs) = rw (same x v, pointwise_as n f g same xs vs) refl

whole_as : {n : ℕ → ℕ} {h j : Heap} → IsRenamed n h j → (u : Parts) (w : ℕ) (x : Object) → is_whole u w j (object_as n x) ≡ is_whole u w h x
whole_as {n} {h} {j} is u w x = go (slice_get u.classes x.class)
  where
    go : (d : Option ClassDef) → option_map_or (λ (c : ClassDef). pointwise (has_field_kind u.fields w j) c.fields (map (value_as n) x.cells)) d false ≡ option_map_or (λ (c : ClassDef). pointwise (has_field_kind u.fields w h) c.fields x.cells) d false
    go None = refl
    go (Some d) = pointwise_as n (has_field_kind u.fields w h) (has_field_kind u.fields w j) (field_kind_as is u.fields w) d.fields x.cells

-- what holds of all elements of a list, by their places
pub all_at : {A : Type 0} (t : A → Bool) (xs : List A) → list_all t xs ≡ true → (i : ℕ) (x : A) → slice_get xs i ≡ Some x → t x ≡ true
all_at t [] all i x there = absurd (cc)
all_at t (y ∷ xs) all zero x there =
    let same : y ≡ x = cc in
    subst (λ z. t z ≡ true) same (first (t y) all)
  where
    first : (b : Bool) → (b && list_all t xs) ≡ true → b ≡ true
    first true is = refl
    first false is = is
all_at t (y ∷ xs) all (suc i) x there = all_at t xs (rest (t y) all) i x there
  where
    rest : (b : Bool) → (b && list_all t xs) ≡ true → list_all t xs ≡ true
    rest true is = is
    rest false is = absurd (false≢true is)

pub at_all : {A : Type 0} (t : A → Bool) (xs : List A) → ((i : ℕ) (x : A) → slice_get xs i ≡ Some x → t x ≡ true) → list_all t xs ≡ true
at_all t [] each = refl
at_all t (y ∷ xs) each = rw (each 0 y refl) (at_all t xs (λ i x there. each (suc i) x there))

receiver_as : {n : ℕ → ℕ} {h j : Heap} → IsRenamed n h j → (class : ℕ) (fixed : Bool) (v : Value) → is_receiver j class fixed (value_as n v) ≡ is_receiver h class fixed v
receiver_as is class true Null = refl
receiver_as is class true (Obj o) = refl
receiver_as is class true (Num z) = refl
receiver_as is class true (Flag b) = refl
receiver_as is class false Null = refl
receiver_as is class false (Obj o) = class_as is class o
receiver_as is class false (Num z) = refl
receiver_as is class false (Flag b) = refl

contains_map : (n : ℕ → ℕ) (vs : List Value) (o : ℕ) → Contains vs (Obj o) → Contains (map (value_as n) vs) (Obj (n o))
contains_map n vs o (i, inside, is) =
    let there : slice_get vs i ≡ Some (Obj o) = slice_get-get_or vs i (Obj o) inside ∙ ap Some is in
    let here : slice_get (map (value_as n) vs) i ≡ Some (Obj (n o)) = slice_get-map (value_as n) vs i ∙ ap (option_map (value_as n)) there in
    (i, slice_get_within (map (value_as n) vs) i (Obj (n o)) here, get_or_from_slice_get (map (value_as n) vs) i (Obj (n o)) (Obj (n o)) here)

reached_as : {n : ℕ → ℕ} (s t : Start) → IsRenamedStart n s t → (o : ℕ) → Reached s o → Reached t (n o)
reached_as {n} s t is _ (root o at_root) =
    let here : Contains (map (value_as n) (s.this ∷ s.args)) (Obj (n o)) = contains_map n (s.this ∷ s.args) o at_root in
    root (n o) (rw (is.this, is.args) here)
reached_as {n} s t is _ (held q o x from there cell) =
    held (n q) (n o) (object_as n x) (reached_as s t is q from) (is.heap.objects q ∙ ap (option_map (object_as n)) there) (contains_map n x.cells o cell)

-- an object of the renamed heap is one of the heap
object_back : {n nb : ℕ → ℕ} → IsNaming n nb → {h j : Heap} → IsRenamed n h j → (i : ℕ) (y : Object) → slice_get j i ≡ Some y → (x : Object) × (slice_get h (nb i) ≡ Some x) × (y ≡ object_as n x)
object_back {n} {nb} naming {h} {j} is i y there = go (slice_get h (nb i)) refl
  where
    at : slice_get j i ≡ option_map (object_as n) (slice_get h (nb i))
    at = ap (slice_get j) (sym (naming.there i)) ∙ is.objects (nb i)

    go : (x : Option Object) → slice_get h (nb i) ≡ x → (z : Object) × (slice_get h (nb i) ≡ Some z) × (y ≡ object_as n z)
    go None none =
        let e : Some y ≡ None = sym there ∙ at ∙ ap (option_map (object_as n)) none in
        absurd (cc)
    go (Some x) some_ =
        let e : Some y ≡ Some (object_as n x) = sym there ∙ at ∙ ap (option_map (object_as n)) some_ in
        (x, some_, cc)

pub fits_as : (p : Posed) {n nb : ℕ → ℕ} → IsNaming n nb → (s t : Start) → IsRenamedStart n s t → Fits s p → Fits t p
fits_as p {n} {nb} naming s t is fits = record {
  few_objects = omega (arith, fits.few_objects, is.heap.as_many);
  objects_whole = at_all (is_whole p.unit p.scope.ints t.objects) t.objects (λ i y there.
      let x = object_back naming is.heap i y there in
      ap (is_whole p.unit p.scope.ints t.objects) x.2 ∙ whole_as is.heap p.unit p.scope.ints x.0 ∙ all_at (is_whole p.unit p.scope.ints s.objects) s.objects fits.objects_whole (nb i) x.0 x.1);
  receiver = rw is.this (receiver (method_of p) fits.receiver);
  arguments = rw is.args (arguments (method_of p) fits.arguments);
  all_reached = λ o inside.
      let small : nb o < length s.objects = back o inside in
      subst (Reached t) (naming.there o) (reached_as s t is (nb o) (fits.all_reached (nb o) small));
}
  where
    back : (o : ℕ) → o < length t.objects → nb o < length s.objects
    back o inside = elim (cases_lt (nb o) (length s.objects)) [
      | inl fine ↦ fine
      | inr past ↦ absurd (omega (arith, is.heap.past (nb o) past, naming.there o, past, inside, is.heap.as_many))
    ]

    receiver : (m : Option MethodDef) → option_map_or (λ (d : MethodDef). is_receiver s.objects d.class d.fixed s.this) m false ≡ true → option_map_or (λ (d : MethodDef). is_receiver t.objects d.class d.fixed (value_as n s.this)) m false ≡ true
    receiver None ok = ok
    receiver (Some d) ok = receiver_as is.heap d.class d.fixed s.this ∙ ok

    arguments : (m : Option MethodDef) → option_map_or (λ (d : MethodDef). pointwise (is_argument p.scope.ints s.objects) d.params s.args) m false ≡ true → option_map_or (λ (d : MethodDef). pointwise (is_argument p.scope.ints t.objects) d.params (map (value_as n) s.args)) m false ≡ true
    arguments None ok = ok
    arguments (Some d) ok = pointwise_as n (is_argument p.scope.ints s.objects) (is_argument p.scope.ints t.objects) (λ q v. kind_as is.heap p.scope.ints q.kind v) d.params s.args ∙ ok

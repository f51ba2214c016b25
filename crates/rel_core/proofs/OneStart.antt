-- The start that is shown is the one that is computed from its relations.
use Rattle.std.proofs.Common.{◌≡◌, ℕ, zero, suc, ◌+◌, ◌-◌, ◌<◌, ◌≤◌, Bool, true, false, cond, List, [], ◌∷◌, ◌++◌, length, Option, Some, None, inl, inr, refl, sym, ap, subst, ◌∙◌, arith, get_or}
use Rattle.std.specs.Prelude.{◌==◌, nat_lt, slice_get, position, is_some, map, filter, count_by, option_map, if◌then◌else◌}
use Rattle.std.specs.List.{range_with_len, list_all, position_or_len}
use Rattle.std.specs.List.Sorted.{IsStrictlyIncreasing}
use Rattle.std.specs.Option.{option_map_or}
use Rattle.std.specs.Cmp.Lexicographic.{pointwise}
use Rattle.std.proofs.lemmas.Bool.{lt-ltb, le-ltb, ltb-true, false≢true, cases_eq, cases_lt, eq-eqb, eqb-true, ne_eqb, and_parts}
use Rattle.std.proofs.lemmas.Option.{slice_get_within, slice_get-get_or, get_or_from_slice_get, slice_get-map}
use Rattle.std.proofs.Math.Seq.{get_or-append_seam}
use Rattle.std.proofs.lemmas.List.{length-map, get_or_append_left}
use Rattle.std.proofs.lemmas.List.FromFn.{length-range_with_len, get_or-range_with_len, fill_by_all}
use Rattle.std.proofs.lemmas.List.Kept.{AllPairs-from_increasing, IsStrictlyIncreasing-filter}
use Rattle.std.proofs.lemmas.List.Sums.{position_or_len_is, sum_by-cons}
use Rattle.taco_unit.specs.declared.kind.Kind.{Kind}
use Rattle.taco_unit.specs.declared.kind.Kind.TheVariants as kind
use Rattle.taco_unit.specs.declared.unit.ClassDef.{ClassDef}
use Rattle.taco_unit.specs.declared.unit.FieldDef.{FieldDef}
use Rattle.taco_unit.specs.declared.unit.MethodDef.{MethodDef}
use Rattle.taco_unit.specs.declared.unit.ParamDef.{ParamDef}
use Rattle.taco_unit.specs.Parts.{Parts}
use Rattle.taco_unit.specs.Well.{IsWell, fields_of, param_kinds}
use Rattle.taco_unit.proofs.Lists.{append_last}
use Rattle.heap_core.specs.declared.value.Value.{Value}
use Rattle.heap_core.specs.declared.value.Value.TheVariants.{Null, Obj, Num, Flag}
use Rattle.heap_core.specs.declared.value.Object.{Object}
use Rattle.heap_core.specs.declared.value.Seen.TheVariants.{Is}
use Rattle.heap_core.specs.declared.start.Start.{Start}
use Rattle.heap_core.specs.Posed.{Posed}
use Rattle.heap_core.specs.Outcomes.{is_value, is_null}
use Rattle.heap_core.specs.Heap.{Heap, is_of, field, place_of}
use Rattle.heap_core.specs.Start.{has_kind, has_field_kind, is_whole, is_receiver, is_argument, method_of, Fits}
use Rattle.heap_core.proofs.Lists.{all_at, slice_get-append_left}
use Rattle.heap_core.proofs.GivenFields.{declares_own}
use Rattle.rel_core.specs.declared.relation.RelVar.{RelVar}
use Rattle.rel_core.specs.declared.indices.Indices.{Indices}
use Rattle.rel_core.specs.Reading.{Reading, numbers_below, references, is_reference}
use Rattle.rel_core.specs.Uses.{receiver_kinds}
use Rattle.rel_core.specs.Shown.{ShowsValue, ShowsHeap, ShowsStart, live_relation, field_relation, slot_relation, value_shown, cells_shown, object_shown, heap_shown, variable_shown, arguments_shown, receiver_shown, start_of}
use Rattle.rel_core.specs.Laws.{StartsAreOne}

-- ## lists

-- a list is the image of one that it goes beside, where each item is the image of its own
beside_image : {A B : Type 0} (fits : A → B → Bool) (image : A → B) (xs : List A) (ys : List B) → pointwise fits xs ys ≡ true
    → ((i : ℕ) (x : A) (y : B) → slice_get xs i ≡ Some x → slice_get ys i ≡ Some y → fits x y ≡ true → y ≡ image x) → ys ≡ map image xs
beside_image fits image [] [] all each = refl
beside_image fits image [] (y ∷ ys) all each = absurd (false≢true all)
beside_image fits image (x ∷ xs) [] all each = absurd (false≢true all)
beside_image fits image (x ∷ xs) (y ∷ ys) all each =
    let parts = and_parts (fits x y) (pointwise fits xs ys) all in
    let first : y ≡ image x = each 0 x y refl refl parts.0 in
    let rest : ys ≡ map image xs = beside_image fits image xs ys parts.1 (λ i z w here there is. each (suc i) z w here there is) in
    cc

beside_length : {A B : Type 0} (fits : A → B → Bool) (xs : List A) (ys : List B) → pointwise fits xs ys ≡ true → length ys ≡ length xs
beside_length fits [] [] all = refl
beside_length fits [] (y ∷ ys) all = absurd (false≢true all)
beside_length fits (x ∷ xs) [] all = absurd (false≢true all)
beside_length fits (x ∷ xs) (y ∷ ys) all = ap suc (beside_length fits xs ys (and_parts (fits x y) (pointwise fits xs ys) all).1)

rising : (a n : ℕ) → IsStrictlyIncreasing (range_with_len a n)
rising a n k within =
    let inside : k + 1 < n = omega (arith, within, length-range_with_len a n) in
    omega (arith, get_or-range_with_len a n k 0 (omega arith), get_or-range_with_len a n (k + 1) 0 inside)

-- a number of a rising list stands at one place alone
only_place : (xs : List ℕ) → IsStrictlyIncreasing xs → (i f : ℕ) → slice_get xs i ≡ Some f → position (λ h. h == f) xs ≡ Some i
only_place xs up i f there =
    let within : i < length xs = slice_get_within xs i f there in
    let here : get_or xs i 0 ≡ f = get_or_from_slice_get xs i f 0 there in
    let before : (k : ℕ) → k < i → (get_or xs k 0 == f) ≡ false =
    λ k lower. ne_eqb (get_or xs k 0) f (λ same. absurd (omega (arith, same, here, AllPairs-from_increasing xs up k i 0 lower within)))
    in
    let first : position_or_len (λ h. h == f) xs ≡ i = position_or_len_is (λ h. h == f) xs i 0 (omega arith) before (λ inside. eq-eqb (get_or xs i 0) f here) in
    rw (first, lt-ltb i (length xs) within) refl

abbrev counts : Bool → ℕ
counts b = cond b 1 0

-- of the numbers from a on, those below n are counted
count_below : (t : ℕ → Bool) (n : ℕ) → ((o : ℕ) → t o ≡ nat_lt o n) → (a k : ℕ) → n ≤ a + k → count_by t (range_with_len a k) ≡ n - a
count_below t n is a zero few = omega arith
count_below t n is a (suc k) few =
    let rest : count_by t (range_with_len (a + 1) k) ≡ n - (a + 1) = count_below t n is (a + 1) k (omega arith) in
    let one = sum_by-cons (λ o. cond (t o) 1 0) a (range_with_len (a + 1) k) in
    elim (cases_lt a n) [
      | inl below ↦ omega (arith, rest, one, ap counts (is a ∙ lt-ltb a n below))
      | inr past ↦ omega (arith, rest, one, ap counts (is a ∙ le-ltb a n past))
    ]

-- ## values

object_first : (t : Value → Bool) (o : ℕ) → ((u : Value) → t u ≡ is_value (Obj o) u) → (a k : ℕ) → a ≤ o → o < a + k
    → get_or (filter t (map Obj (range_with_len a k))) 0 Null ≡ Obj o
object_first t o is a zero low high = absurd (omega arith)
object_first t o is a (suc k) low high = elim (cases_eq o a) [
  | inl same ↦ rw (is (Obj a) ∙ eq-eqb o a same) (ap Obj (sym same))
  | inr apart ↦ rw (is (Obj a) ∙ ne_eqb o a apart) (object_first t o is (a + 1) k (omega arith) (omega arith))
]

-- the only reference of a relation at a place is the first
only_first : (t : Value → Bool) (k : ℕ) (v : Value) → is_reference k v ≡ true → ((u : Value) → t u ≡ is_value v u) → get_or (filter t (references k)) 0 Null ≡ v
only_first t k Null low is = rw (is Null) refl
only_first t k (Obj o) low is = rw (is Null) (object_first t o is 0 k (omega arith) (omega (arith, ltb-true o k low)))
only_first t k (Num z) low is = absurd (false≢true low)
only_first t k (Flag b) low is = absurd (false≢true low)

value_is : (m : Reading) (k : Kind) (r : RelVar) (o : ℕ) (v : Value) → ShowsValue m k r o v → v ≡ value_shown m k r o
value_is m kind.Int r o v shown = shown
value_is m kind.Flag r o v shown = shown
value_is m (kind.Ref c) r o v shown = sym (only_first (m.refs r o) m.objects v shown.0 shown.1)

null_is : (v : Value) → is_null v ≡ true → v ≡ Null
null_is Null is = refl
null_is (Obj o) is = absurd (false≢true is)
null_is (Num z) is = absurd (false≢true is)
null_is (Flag b) is = absurd (false≢true is)

given_same : {u v : Value} → Is u ≡ Is v → u ≡ v
given_same is = cc

-- ## objects

module _ (u : Parts) (well : IsWell u) (w : ℕ) (heap : Heap) (m : Reading) (at : Indices) (shown : ShowsHeap u m at heap) where
  -- a field that a class lists has its place there
  placed : (c : ℕ) (d : ClassDef) → slice_get u.classes c ≡ Some d → (i f : ℕ) → slice_get d.fields i ≡ Some f → place_of u.classes c f ≡ Some i
  placed c d class i f listed =
      let numbered : IsStrictlyIncreasing (fields_of u c) = IsStrictlyIncreasing-filter _ (range_with_len 0 (length u.fields)) (rising 0 (length u.fields)) in
      rw class (only_place d.fields (subst IsStrictlyIncreasing (sym (well.classes c d class).lists_fields) numbered) i f listed)

  cell_is : (o : ℕ) (x : Object) (d : ClassDef) → slice_get heap o ≡ Some x → slice_get u.classes x.class ≡ Some d
      → (i f : ℕ) (v : Value) → slice_get d.fields i ≡ Some f → slice_get x.cells i ≡ Some v → has_field_kind u.fields w heap f v ≡ true
      → v ≡ option_map_or (λ g. value_shown m g.kind (field_relation at f) o) (slice_get u.fields f) Null
  cell_is o x d there class i f v listed stands = go (slice_get u.fields f) refl
    where
      place : place_of u.classes x.class f ≡ Some i
      place = placed x.class d class i f listed

      gives : field u.classes heap f (Obj o) ≡ Is v
      gives = rw (there, place, stands) refl

      go : (g : Option FieldDef) → slice_get u.fields f ≡ g → option_map_or (λ g. has_kind w heap g.kind v) g false ≡ true
          → v ≡ option_map_or (λ g. value_shown m g.kind (field_relation at f) o) g Null
      go None is kinded = absurd (false≢true kinded)
      go (Some g) is kinded =
          let own : g.class ≡ x.class = eqb-true g.class x.class (sym (declares_own u well f g is x.class) ∙ ap is_some place) in
          let here : is_of heap g.class o ≡ true = rw there (eq-eqb x.class g.class (sym own)) in
          let cell = shown.cells f g o is here in
          given_same (sym gives ∙ cell.is) ∙ value_is m g.kind (field_relation at f) o cell.value cell.shown

  object_is : (o : ℕ) (x : Object) → slice_get heap o ≡ Some x → is_whole u w heap x ≡ true → x ≡ object_shown u m at o
  object_is o x there whole = rw (shown.classes o x there) (go (slice_get u.classes x.class) refl whole)
    where
      go : (d : Option ClassDef) → slice_get u.classes x.class ≡ d
          → option_map_or (λ d. pointwise (has_field_kind u.fields w heap) d.fields x.cells) d false ≡ true
          → x ≡ record { class = x.class; cells = option_map_or (cells_shown u m at o) d [] }
      go None class whole = absurd (false≢true whole)
      go (Some d) class whole =
          ap (λ cs. record { class = x.class; cells = cs }) (beside_image (has_field_kind u.fields w heap) _ d.fields x.cells whole (cell_is o x d there class))

  heap_is : list_all (is_whole u w heap) heap ≡ true → heap ≡ heap_shown u m at
  heap_is whole = rw many (fill_by_all (object_shown u m at) heap (length heap) none refl each)
    where
      none : Object
      none = record { class = 0; cells = [] }

      many : count_by (m.flag (live_relation at)) (numbers_below m.objects) ≡ length heap
      many = count_below (m.flag (live_relation at)) (length heap) shown.live 0 m.objects (omega (arith, shown.few)) ∙ omega arith

      each : (o : ℕ) → o < length heap → get_or heap o none ≡ object_shown u m at o
      each o within =
          let there : slice_get heap o ≡ Some (get_or heap o none) = slice_get-get_or heap o none within in
          object_is o (get_or heap o none) there (all_at (is_whole u w heap) heap o (get_or heap o none) whole there)

-- ## arguments and receiver

module _ (p : Posed) (m : Reading) (at : Indices) (s : Start) (d : MethodDef) (called : method_of p ≡ Some d) (shown : ShowsStart p m at s)
    (fits : pointwise (is_argument p.scope.ints s.objects) d.params s.args ≡ true) where
  -- the variable of this number is shown by its kind
  variable_is : (x : ℕ) (k : Kind) → slice_get (param_kinds d ++ receiver_kinds d) x ≡ Some k → get_or (s.args ++ s.this ∷ []) x Null ≡ variable_shown m at k x
  variable_is x k there = value_is m k (slot_relation at x) 0 _ (shown.values x k (rw called there))

  as_many : length s.args ≡ length d.params
  as_many = beside_length (is_argument p.scope.ints s.objects) d.params s.args fits

  kinds_too : length (param_kinds d) ≡ length d.params
  kinds_too = length-map d.params (λ q. q.kind)

  argument_is : (x : ℕ) → x < length d.params → get_or s.args x Null ≡ option_map_or (λ q. variable_shown m at q.kind x) (slice_get d.params x) Null
  argument_is x within =
      let none : ParamDef = record { name = []; kind = kind.Int; nullable = true } in
      let q : ParamDef = get_or d.params x none in
      let there : slice_get d.params x ≡ Some q = slice_get-get_or d.params x none within in
      let kind_there : slice_get (param_kinds d) x ≡ Some q.kind = slice_get-map (λ q. q.kind) d.params x ∙ ap (option_map (λ q. q.kind)) there in
      let kind_is = slice_get-append_left (param_kinds d) (receiver_kinds d) x (omega (arith, within, kinds_too)) ∙ kind_there in
      sym (get_or_append_left s.args (s.this ∷ []) Null x (omega (arith, within, as_many))) ∙ variable_is x q.kind kind_is ∙ sym (rw there refl)

  arguments_are : s.args ≡ arguments_shown m at d
  arguments_are = fill_by_all _ s.args (length d.params) Null as_many argument_is

  receiver_is : is_receiver s.objects d.class d.fixed s.this ≡ true → s.this ≡ receiver_shown m at d
  receiver_is is = go d.fixed refl is
    where
      behind : get_or (s.args ++ s.this ∷ []) (length d.params) Null ≡ s.this
      behind = ap (λ x. get_or (s.args ++ s.this ∷ []) x Null) (sym as_many) ∙ get_or-append_seam s.args s.this [] Null

      last : d.fixed ≡ false → slice_get (param_kinds d ++ receiver_kinds d) (length d.params) ≡ Some (kind.Ref d.class)
      last instance = rw instance (ap (slice_get (param_kinds d ++ kind.Ref d.class ∷ [])) (sym kinds_too) ∙ append_last (param_kinds d) (kind.Ref d.class))

      go : (b : Bool) → d.fixed ≡ b → is_receiver s.objects d.class b s.this ≡ true
          → s.this ≡ (if b then Null else variable_shown m at (kind.Ref d.class) (length d.params))
      go true fixed is = null_is s.this is
      go false fixed is = sym behind ∙ variable_is (length d.params) (kind.Ref d.class) (last fixed)

-- ## the start

start_is : (p : Posed) (m : Reading) (at : Indices) (s : Start) → IsWell p.unit → Fits s p → ShowsStart p m at s → (d : Option MethodDef) → method_of p ≡ d
    → option_map_or (λ m. is_receiver s.objects m.class m.fixed s.this) d false ≡ true
    → option_map_or (λ m. pointwise (is_argument p.scope.ints s.objects) m.params s.args) d false ≡ true → s ≡ start_of p m at
start_is p m at s well fits shown None called receiver arguments = absurd (false≢true receiver)
start_is p m at s well fits shown (Some d) called receiver arguments =
    rw called (joined _ _ _ (heap_is p.unit well p.scope.ints s.objects m at shown.heap fits.objects_whole)
    (receiver_is p m at s d called shown arguments receiver) (arguments_are p m at s d called shown arguments))
  where
    joined : (heap : Heap) (this : Value) (args : List Value) → s.objects ≡ heap → s.this ≡ this → s.args ≡ args
        → s ≡ record { objects = heap; this = this; args = args }
    joined heap this args is_heap is_this is_args = rw (← is_heap, ← is_this, ← is_args) refl

pub starts_are_one : StartsAreOne
starts_are_one p m at s well range fits shown = start_is p m at s well fits shown (method_of p) refl fits.receiver fits.arguments

-- A reading with the shape of a start shows a heap whose objects are whole.
use Rattle.std.proofs.Common.{◌≡◌, ℕ, zero, suc, ◌+◌, ◌<◌, ◌≤◌, Bool, true, false, ◌&&◌, List, [], length, Option, Some, None, inl, inr, refl, sym, ap, subst, ◌∙◌, arith, get_or}
use Rattle.std.specs.Prelude.{◌==◌, nat_lt, pos, if◌then◌else◌, map, filter, slice_get, option_map}
use Rattle.std.specs.Ordering.{int_eq}
use Rattle.std.specs.List.{list_all, range_with_len}
use Rattle.std.specs.Option.{option_map_or}
use Rattle.std.specs.Cmp.Lexicographic.{pointwise}
use Rattle.std.proofs.lemmas.Bool.{lt-ltb, le-ltb, ltb-true, false≢true, cases_eq, cases_lt, cases_Bool, and_parts, eq-eqb, eqb-true, ne_eqb, false_from_ne_true}
use Rattle.std.proofs.lemmas.Bool.Decides.{Decides-int_eq}
use Rattle.std.proofs.lemmas.Option.{slice_get_within, slice_get-get_or, slice_get-map, slice_get_past, same_Some}
use Rattle.std.proofs.lemmas.List.{length-map}
use Rattle.std.proofs.lemmas.List.FromFn.{length-range_with_len}
use Rattle.taco_unit.specs.declared.kind.Kind.{Kind}
use Rattle.taco_unit.specs.declared.kind.Kind.TheVariants as kind
use Rattle.taco_unit.specs.declared.unit.ClassDef.{ClassDef}
use Rattle.taco_unit.specs.declared.unit.FieldDef.{FieldDef}
use Rattle.taco_unit.specs.Kinds.{is_class_kind}
use Rattle.taco_unit.specs.Well.{IsWell}
use Rattle.heap_core.specs.declared.value.Value.{Value}
use Rattle.heap_core.specs.declared.value.Value.TheVariants.{Null, Obj, Num, Flag}
use Rattle.heap_core.specs.declared.value.Object.{Object}
use Rattle.heap_core.specs.declared.value.Seen.{Seen}
use Rattle.heap_core.specs.declared.value.Seen.TheVariants.{Is, Bad, Out}
use Rattle.heap_core.specs.Posed.{Posed, InRange}
use Rattle.heap_core.specs.Outcomes.{is_value, gives}
use Rattle.heap_core.specs.Heap.{Heap, is_of, field}
use Rattle.heap_core.specs.Start.{has_kind, has_field_kind, is_whole}
use Rattle.heap_core.proofs.Lists.{all_at, all_from, all_filtered, beside_map}
use Rattle.heap_core.proofs.GivenFields.{field_at, field_given, gives_kind}
use Rattle.canonical_order.proofs.Counting.{slice_get-range}
use Rattle.rel_core.specs.declared.relation.RelVar.{RelVar}
use Rattle.rel_core.specs.declared.indices.Indices.{Indices}
use Rattle.rel_core.specs.Reading.{Reading, numbers_below, references, is_reference}
use Rattle.rel_core.specs.Uses.{Kinds, use_of_kind, use_of, IsOf}
use Rattle.rel_core.specs.Shown.{ShowsValue, ShowsCell, ShowsHeap, live_relation, class_relation, field_relation, value_shown, cells_shown, object_shown, heap_shown, natural}
use Rattle.rel_core.specs.Laws.{is_of_shown}
use Rattle.rel_core.proofs.Read.{same_naturals}
use Rattle.rel_core.proofs.StatesShown.{kind_of_given}
use Rattle.canon_rel.specs.Shape.{is_one_value, is_nothing, is_next, on_class, field_fits, fields_fit}
use Rattle.canon_rel.proofs.OneValue.{IsOneValue, may_be, value_told, nothing_told, all_numbers}
use Rattle.canon_rel.proofs.ReadingOf.{refs_references, refs_below, class_there, in_bits_there, count, live_told, few_live}

-- ## values

value_itself : (v : Value) → is_value v v ≡ true
value_itself Null = refl
value_itself (Obj o) = eq-eqb o o refl
value_itself (Num z) = (Decides-int_eq z z).1 refl
value_itself (Flag true) = refl
value_itself (Flag false) = refl

values_same : (u v : Value) → is_value u v ≡ true → u ≡ v
values_same Null Null is = refl
values_same Null (Obj q) is = absurd (false≢true is)
values_same Null (Num z) is = absurd (false≢true is)
values_same Null (Flag b) is = absurd (false≢true is)
values_same (Obj o) (Obj q) is = ap Obj (eqb-true o q is)
values_same (Obj o) Null is = absurd (false≢true is)
values_same (Obj o) (Num z) is = absurd (false≢true is)
values_same (Obj o) (Flag b) is = absurd (false≢true is)
values_same (Num x) (Num z) is = ap Num ((Decides-int_eq x z).0 is)
values_same (Num x) Null is = absurd (false≢true is)
values_same (Num x) (Obj o) is = absurd (false≢true is)
values_same (Num x) (Flag b) is = absurd (false≢true is)
values_same (Flag true) (Flag true) is = refl
values_same (Flag true) (Flag false) is = absurd (false≢true is)
values_same (Flag false) (Flag true) is = absurd (false≢true is)
values_same (Flag false) (Flag false) is = refl
values_same (Flag a) Null is = absurd (false≢true is)
values_same (Flag a) (Obj o) is = absurd (false≢true is)
values_same (Flag a) (Num z) is = absurd (false≢true is)

object_first : (t : Value → Bool) (o : ℕ) → ((u : Value) → t u ≡ is_value (Obj o) u) → (a k : ℕ) → a ≤ o → o < a + k
    → get_or (filter t (map Obj (range_with_len a k))) 0 Null ≡ Obj o
object_first t o is a zero low high = absurd (omega (arith, low, high))
object_first t o is a (suc k) low high = elim (cases_eq o a) [
  | inl same ↦ rw (is (Obj a) ∙ eq-eqb o a same) (ap Obj (sym same))
  | inr apart ↦ rw (is (Obj a) ∙ ne_eqb o a apart) (object_first t o is (a + 1) k (omega (arith, low, apart)) (omega (arith, high)))
]

-- the only reference of a relation at a place is the first
pub only_first : (t : Value → Bool) (k : ℕ) (v : Value) → is_reference k v ≡ true → ((u : Value) → t u ≡ is_value v u) → get_or (filter t (references k)) 0 Null ≡ v
only_first t k Null low is = rw (is Null) refl
only_first t k (Obj o) low is = rw (is Null) (object_first t o is 0 k (omega arith) (omega (arith, ltb-true o k low)))
only_first t k (Num z) low is = absurd (false≢true low)
only_first t k (Flag b) low is = absurd (false≢true low)

-- where a kind is one of a class, the references of a relation at a place are one value of it
abbrev pub IsOneIf : Reading → Indices → Kind → RelVar → ℕ → Type 0
IsOneIf m at k r o = (c : ℕ) → k ≡ kind.Ref c → IsOneValue m at c (m.refs r o)

pub value_is_shown : (m : Reading) (at : Indices) (k : Kind) (r : RelVar) (o : ℕ) → IsOneIf m at k r o → ShowsValue m k r o (value_shown m k r o)
value_is_shown m at kind.Int r o one = refl
value_is_shown m at kind.Flag r o one = refl
value_is_shown m at (kind.Ref c) r o one =
    let is = one c refl in
    let same : value_shown m (kind.Ref c) r o ≡ is.value = only_first (m.refs r o) m.objects is.value is.below is.alone in
    (ap (is_reference m.objects) same ∙ is.below, λ u. is.alone u ∙ ap (λ v. is_value v u) (sym same))

module _ (p : Posed) (m : Reading) (at : Indices) (well : IsWell p.unit) (range : InRange p) (kinds : Kinds) (of : IsOf p kinds m)
    (nexts : list_all (is_next at m) (numbers_below p.scope.objects) ≡ true) (fields : list_all (fields_fit p at m) (numbers_below p.scope.objects) ≡ true) where
  abbrev heap : Heap
  heap = heap_shown p.unit m at

  -- ## the objects

  live : (o : ℕ) → m.flag (live_relation at) o ≡ nat_lt o (count m at)
  live = live_told p m at well range kinds of nexts

  long : length heap ≡ count m at
  long = length-map (numbers_below (count m at)) (object_shown p.unit m at) ∙ length-range_with_len 0 (count m at)

  object_there : (o : ℕ) → o < count m at → slice_get heap o ≡ Some (object_shown p.unit m at o)
  object_there o within =
      slice_get-map (object_shown p.unit m at) (numbers_below (count m at)) o
      ∙ ap (option_map (object_shown p.unit m at)) (slice_get-range 0 (count m at) o within ∙ ap Some (omega arith))

  is_of_is : (c o : ℕ) → is_of heap c o ≡ is_of_shown m at c o
  is_of_is c o = elim (cases_lt o (count m at)) [
    | inl within ↦
        let class = class_there p m at well range kinds of o in
        ap (λ x. option_map_or (λ (x : Object). x.class == c) x false) (object_there o within)
        ∙ ap (λ z. natural z == c) class.1 ∙ sym (same_naturals class.0 c) ∙ ap (λ z. int_eq z (pos c)) (sym class.1)
        ∙ ap (λ b. b && int_eq (m.number (class_relation at) o) (pos c)) (sym (live o ∙ lt-ltb o (count m at) within))
    | inr past ↦
        ap (λ x. option_map_or (λ (x : Object). x.class == c) x false) (slice_get_past heap o (omega (arith, past, long)))
        ∙ ap (λ b. b && int_eq (m.number (class_relation at) o) (pos c)) (sym (live o ∙ le-ltb o (count m at) past))
  ]

  value_has : (k : Kind) (r : RelVar) (o : ℕ) → use_of p kinds r.what ≡ Some (use_of_kind k) → IsOneIf m at k r o → has_kind p.scope.ints heap k (value_shown m k r o) ≡ true
  value_has kind.Int r o used one = in_bits_there p m at well range kinds of r o kind.Int used
  value_has kind.Flag r o used one = refl
  value_has (kind.Ref c) r o used one = ap (has_kind p.scope.ints heap (kind.Ref c)) same ∙ go is.value is.allowed
    where
      is : IsOneValue m at c (m.refs r o)
      is = one c refl

      same : value_shown m (kind.Ref c) r o ≡ is.value
      same = only_first (m.refs r o) m.objects is.value is.below is.alone

      go : (v : Value) → may_be m at c v ≡ true → has_kind p.scope.ints heap (kind.Ref c) v ≡ true
      go Null allowed = refl
      go (Obj q) allowed = is_of_is c q ∙ allowed
      go (Num z) allowed = absurd (false≢true allowed)
      go (Flag b) allowed = absurd (false≢true allowed)

  -- ## the fields

  inside : (c o : ℕ) → is_of_shown m at c o ≡ true → o < count m at
  inside c o is = ltb-true o (count m at) (sym (live o) ∙ (and_parts (m.flag (live_relation at) o) (int_eq (m.number (class_relation at) o) (pos c)) is).0)

  field_is : (o f c : ℕ) (g : FieldDef) → o < p.scope.objects → slice_get p.unit.fields f ≡ Some g → g.kind ≡ kind.Ref c
      → (if is_of_shown m at g.class o then is_one_value m at c (m.refs (field_relation at f) o) else is_nothing m (m.refs (field_relation at f) o)) ≡ true
  field_is o f c g below there class =
      let all : fields_fit p at m o ≡ true = all_numbers (fields_fit p at m) p.scope.objects o fields below in
      let one = all_numbers (λ f. option_map_or (field_fits at m o f) (slice_get p.unit.fields f) true) (length p.unit.fields) f all (slice_get_within p.unit.fields f g there) in
      sym (ap (λ x. option_map_or (field_fits at m o f) x true) there
      ∙ ap (λ k. on_class k (λ c. if is_of_shown m at g.class o then is_one_value m at c (m.refs (field_relation at f) o) else is_nothing m (m.refs (field_relation at f) o))) class) ∙ one

  -- at an object of its class a field has one value, and nothing at any other
  field_one : (o f : ℕ) (g : FieldDef) → slice_get p.unit.fields f ≡ Some g → is_of_shown m at g.class o ≡ true → IsOneIf m at g.kind (field_relation at f) o
  field_one o f g there here c class =
      let below : o < p.scope.objects = omega (arith, inside g.class o here, few_live p m at well range kinds of nexts) in
      value_told m at c (m.refs (field_relation at f) o) (refs_references p m at well range kinds of (field_relation at f) o)
      (sym (ap (λ b. if b then is_one_value m at c (m.refs (field_relation at f) o) else is_nothing m (m.refs (field_relation at f) o)) here) ∙ field_is o f c g below there class)

  field_none : (o f c : ℕ) (g : FieldDef) → slice_get p.unit.fields f ≡ Some g → g.kind ≡ kind.Ref c → is_of_shown m at g.class o ≡ false → (v : Value) → m.refs (field_relation at f) o v ≡ false
  field_none o f c g there class other v = elim (cases_lt o p.scope.objects) [
    | inl below ↦
        nothing_told m at c (m.refs (field_relation at f) o) (refs_references p m at well range kinds of (field_relation at f) o)
        (sym (ap (λ b. if b then is_one_value m at c (m.refs (field_relation at f) o) else is_nothing m (m.refs (field_relation at f) o)) other) ∙ field_is o f c g below there class) v
    | inr past ↦ false_from_ne_true (m.refs (field_relation at f) o v) (λ holds. absurd (omega (arith, past, refs_below p m at well range kinds of (field_relation at f) o v holds)))
  ]

  -- the value of a field, as the object has it
  abbrev cell_at : ℕ → ℕ → Value
  cell_at o f = option_map_or (λ (g : FieldDef). value_shown m g.kind (field_relation at f) o) (slice_get p.unit.fields f) Null

  -- the class of an object
  record HasClass (o : ℕ) : Type 0 where
    class : ClassDef
    number : m.number (class_relation at) o ≡ pos (natural (m.number (class_relation at) o))
    there : slice_get p.unit.classes (natural (m.number (class_relation at) o)) ≡ Some class

  class_of : (o : ℕ) → HasClass o
  class_of o =
      let class = class_there p m at well range kinds of o in
      let none : ClassDef = record { name = []; fields = []; methods = []; invariants = [] } in
      record {
        class = get_or p.unit.classes class.0 none;
        number = class.1 ∙ ap (λ z. pos (natural z)) (sym class.1);
        there = ap (λ z. slice_get p.unit.classes (natural z)) class.1 ∙ slice_get-get_or p.unit.classes class.0 none class.2;
      }

  -- the fields that a class lists are its own
  listed_field : (c : ℕ) (d : ClassDef) → slice_get p.unit.classes c ≡ Some d → (i f : ℕ) → slice_get d.fields i ≡ Some f
      → (g : FieldDef) × (slice_get p.unit.fields f ≡ Some g) × (g.class ≡ c)
  listed_field c d there i f listed = go (slice_get p.unit.fields f) refl own
    where
      own : option_map_or (λ (d : FieldDef). d.class == c) (slice_get p.unit.fields f) false ≡ true
      own =
          let test : ℕ → Bool = λ f. option_map_or (λ (d : FieldDef). d.class == c) (slice_get p.unit.fields f) false in
          let numbers : List ℕ = range_with_len 0 (length p.unit.fields) in
          all_at test (filter test numbers) i f (all_filtered test numbers) (ap (λ fs. slice_get fs i) (sym (well.classes c d there).lists_fields) ∙ listed)

      go : (g : Option FieldDef) → slice_get p.unit.fields f ≡ g → option_map_or (λ (d : FieldDef). d.class == c) g false ≡ true → (g : FieldDef) × (slice_get p.unit.fields f ≡ Some g) × (g.class ≡ c)
      go (Some g) is same = (g, is, eqb-true g.class c same)
      go None is same = absurd (false≢true same)

  shown_of : (o : ℕ) → o < count m at → (c : ℕ) → natural (m.number (class_relation at) o) ≡ c → is_of_shown m at c o ≡ true
  shown_of o within c same =
      sym (is_of_is c o) ∙ ap (λ x. option_map_or (λ (x : Object). x.class == c) x false) (object_there o within) ∙ eq-eqb (natural (m.number (class_relation at) o)) c same

  object_whole : (o : ℕ) → o < count m at → is_whole p.unit p.scope.ints heap (object_shown p.unit m at o) ≡ true
  object_whole o within =
      ap (λ x. option_map_or (λ (d : ClassDef). pointwise (has_field_kind p.unit.fields p.scope.ints heap) d.fields (option_map_or (cells_shown p.unit m at o) x [])) x false) class.there
      ∙ beside_map (has_field_kind p.unit.fields p.scope.ints heap) (cell_at o) class.class.fields each
    where
      class : HasClass o
      class = class_of o

      each : (i f : ℕ) → slice_get class.class.fields i ≡ Some f → has_field_kind p.unit.fields p.scope.ints heap f (cell_at o f) ≡ true
      each i f listed =
          let own = listed_field (natural (m.number (class_relation at) o)) class.class class.there i f listed in
          let g : FieldDef = own.0 in
          ap (λ x. option_map_or (λ (d : FieldDef). has_kind p.scope.ints heap d.kind (option_map_or (λ (g : FieldDef). value_shown m g.kind (field_relation at f) o) x Null)) x false) own.1
          ∙ value_has g.kind (field_relation at f) o (ap (option_map (λ (d : FieldDef). use_of_kind d.kind)) own.1)
          (field_one o f g own.1 (shown_of o within g.class (sym own.2)))

  pub objects_whole : list_all (is_whole p.unit p.scope.ints heap) heap ≡ true
  objects_whole = all_from (is_whole p.unit p.scope.ints heap) heap (λ o x there.
      let within : o < count m at = omega (arith, slice_get_within heap o x there, long) in
      let same : object_shown p.unit m at o ≡ x = same_Some (object_shown p.unit m at o) x (sym (object_there o within) ∙ there) in
      ap (is_whole p.unit p.scope.ints heap) (sym same) ∙ object_whole o within)

  -- ## the heap is shown

  cell_shown : (f : ℕ) (g : FieldDef) (o : ℕ) → slice_get p.unit.fields f ≡ Some g → is_of heap g.class o ≡ true → ShowsCell p.unit m at heap f g o
  cell_shown f g o there of_class = record {
    value = value_shown m g.kind (field_relation at f) o;
    is = given.1 ∙ ap Is (sym (values_same (cell_at o f) given.0 given.2) ∙ ap (λ x. option_map_or (λ (g : FieldDef). value_shown m g.kind (field_relation at f) o) x Null) there);
    shown = value_is_shown m at g.kind (field_relation at f) o (field_one o f g there here);
  }
    where
      here : is_of_shown m at g.class o ≡ true
      here = sym (is_of_is g.class o) ∙ of_class

      within : o < count m at
      within = inside g.class o here

      own : g.class ≡ natural (m.number (class_relation at) o)
      own = sym (eqb-true (natural (m.number (class_relation at) o)) g.class (sym (ap (λ x. option_map_or (λ (x : Object). x.class == g.class) x false) (object_there o within)) ∙ of_class))

      given : (v : Value) × (field p.unit.classes heap f (Obj o) ≡ Is v) × (is_value (cell_at o f) v ≡ true)
      given =
          let class = class_of o in
          field_at p.unit well (λ f v. is_value (cell_at o f) v) heap o (object_shown p.unit m at o) class.class f g (object_there o within) class.there
          (ap (λ x. pointwise (λ f v. is_value (cell_at o f) v) class.class.fields (option_map_or (cells_shown p.unit m at o) x [])) class.there
          ∙ beside_map (λ f v. is_value (cell_at o f) v) (cell_at o) class.class.fields (λ i f listed. value_itself (cell_at o f)))
          there own

  link_shown : (f : ℕ) (g : FieldDef) (o : ℕ) (v : Value) (k : Kind) → g.kind ≡ k → slice_get p.unit.fields f ≡ Some g → is_class_kind k ≡ true
      → m.refs (field_relation at f) o v ≡ gives v (field p.unit.classes heap f (Obj o))
  link_shown f g o v kind.Int same there link = absurd (false≢true link)
  link_shown f g o v kind.Flag same there link = absurd (false≢true link)
  link_shown f g o v (kind.Ref c) same there link = elim (cases_Bool (is_of heap g.class o)) [
    | inl here ↦
        let cell = cell_shown f g o there here in
        (subst (λ k. ShowsValue m k (field_relation at f) o cell.value) same cell.shown).1 v ∙ sym (ap (gives v) cell.is)
    | inr other ↦ field_none o f c g there same (sym (is_of_is g.class o) ∙ other) v ∙ sym (nothing (field p.unit.classes heap f (Obj o)) refl other)
  ]
    where
      nothing : (e : Seen) → field p.unit.classes heap f (Obj o) ≡ e → is_of heap g.class o ≡ false → gives v e ≡ false
      nothing (Is w) is other =
          let given = field_given p.unit well p.scope.ints heap objects_whole f g there o in
          absurd (false≢true (sym other ∙ sym given.value ∙ ap (gives_kind p.scope.ints heap g.kind) is ∙ kind_of_given p.scope.ints heap g o (field p.unit.classes heap f (Obj o)) given w is))
      nothing Bad is other = refl
      nothing Out is other = refl

  pub heap_is_shown : ShowsHeap p.unit m at heap
  heap_is_shown = record {
    few = omega (arith, long, few_live p m at well range kinds of nexts, of.objects);
    live = λ o. live o ∙ ap (nat_lt o) (sym long);
    classes = λ o x there.
        let within : o < count m at = omega (arith, slice_get_within heap o x there, long) in
        let same : object_shown p.unit m at o ≡ x = same_Some (object_shown p.unit m at o) x (sym (object_there o within) ∙ there) in
        (class_of o).number ∙ ap (λ (x : Object). pos x.class) same;
    cells = cell_shown;
    links = λ f g o v there link. link_shown f g o v g.kind refl there link;
  }

  pub few_objects : length heap ≤ p.scope.objects
  few_objects = omega (arith, long, few_live p m at well range kinds of nexts)

  pub value_kind : (k : Kind) (r : RelVar) (o : ℕ) → use_of p kinds r.what ≡ Some (use_of_kind k) → IsOneIf m at k r o → has_kind p.scope.ints heap k (value_shown m k r o) ≡ true
  value_kind = value_has

  pub of_class_shown : (c o : ℕ) → is_of heap c o ≡ is_of_shown m at c o
  of_class_shown = is_of_is

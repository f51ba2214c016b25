-- The reading of a state shows the state.
use Rattle.std.proofs.Common.{◌≡◌, ℕ, ◌<◌, ◌≤◌, Bool, true, false, not, ◌&&◌, ◌||◌, length, Option, Some, None, inl, inr, refl, sym, ap, ◌∙◌, arith}
use Rattle.std.specs.Prelude.{◌==◌, nat_lt, pos, if◌then◌else◌, slice_get, is_none, option_map}
use Rattle.std.specs.Option.{option_map_or}
use Rattle.std.proofs.lemmas.Bool.{lt-ltb, false≢true, cases_eq, eq-eqb, ne_eqb}
use Rattle.std.proofs.lemmas.Option.{slice_get_within}
use Rattle.taco_unit.specs.declared.kind.Kind.{Kind}
use Rattle.taco_unit.specs.declared.kind.Kind.TheVariants as kind
use Rattle.taco_unit.specs.declared.unit.FieldDef.{FieldDef}
use Rattle.taco_unit.specs.Kinds.{is_class_kind}
use Rattle.taco_unit.specs.Well.{IsWell}
use Rattle.heap_core.specs.declared.value.Value.{Value}
use Rattle.heap_core.specs.declared.value.Value.TheVariants.{Null, Obj, Num, Flag}
use Rattle.heap_core.specs.declared.value.Object.{Object}
use Rattle.heap_core.specs.declared.value.Seen.{Seen}
use Rattle.heap_core.specs.declared.value.Seen.TheVariants.{Is, Bad, Out}
use Rattle.heap_core.specs.Posed.{Posed}
use Rattle.heap_core.specs.Outcomes.{is_value, gives, is_true, is_bad, is_out}
use Rattle.heap_core.specs.Heap.{Heap, is_of, class_at, field}
use Rattle.heap_core.specs.Start.{has_kind}
use Rattle.heap_core.proofs.GivenFields.{IsGiven, field_given, gives_kind}
use Rattle.rel_core.specs.declared.relation.RelVar.{RelVar}
use Rattle.rel_core.specs.declared.indices.Indices.{Indices}
use Rattle.rel_core.specs.Reading.{Reading, is_reference}
use Rattle.rel_core.specs.Uses.{Kinds}
use Rattle.rel_core.specs.Shown.{State, ShowsValue, ShowsCell, ShowsHeap, ShowsState, IsFirst, live_relation, class_relation, field_relation, slot_relation}
use Rattle.rel_core.specs.States.{IsState, seen_at, number_given, reading_of_state}

-- ## values of a kind

-- an object of a class is below the number of objects
pub object_below : (heap : Heap) (c o : ℕ) → is_of heap c o ≡ true → o < length heap
object_below heap c o of = go (slice_get heap o) refl
  where
    go : (x : Option Object) → slice_get heap o ≡ x → o < length heap
    go (Some x) there = slice_get_within heap o x there
    go None there = absurd (false≢true (sym (ap (λ y. option_map_or (λ x. x.class == c) y false) there) ∙ of))

pub reference_below : (w : ℕ) (heap : Heap) (k c : ℕ) (v : Value) → length heap ≤ k → has_kind w heap (kind.Ref c) v ≡ true → is_reference k v ≡ true
reference_below w heap k c Null few has = refl
reference_below w heap k c (Obj o) few has = lt-ltb o k (let below : o < length heap = object_below heap c o has in omega arith)
reference_below w heap k c (Num z) few has = absurd (false≢true has)
reference_below w heap k c (Flag b) few has = absurd (false≢true has)

and_false : (b : Bool) → (b && false) ≡ false
and_false true = refl
and_false false = refl

-- what is asked beside a reference that is given plays no part
same_reference : (k : ℕ) (u v : Value) → is_reference k u ≡ true → (is_reference k v && is_value u v) ≡ is_value u v
same_reference k Null Null is = refl
same_reference k Null (Obj o) is = and_false (nat_lt o k)
same_reference k Null (Num z) is = refl
same_reference k Null (Flag b) is = refl
same_reference k (Obj o) Null is = refl
same_reference k (Obj o) (Obj q) is = elim (cases_eq o q) [
  | inl same ↦ ap (λ b. b && (o == q)) (ap (λ n. nat_lt n k) (sym same) ∙ is)
  | inr apart ↦ ap (λ b. nat_lt q k && b) (ne_eqb o q apart) ∙ and_false (nat_lt q k) ∙ sym (ne_eqb o q apart)
]
same_reference k (Obj o) (Num z) is = refl
same_reference k (Obj o) (Flag b) is = refl
same_reference k (Num x) v is = absurd (false≢true is)
same_reference k (Flag b) v is = absurd (false≢true is)

-- ## what is given

-- an evaluation that gives a value of a kind
pub record Gives (w : ℕ) (heap : Heap) (k : Kind) (s : Seen) : Type 0 where
  pub value : Value
  pub is : s ≡ Is value
  pub has : has_kind w heap k value ≡ true

pub given : (w : ℕ) (heap : Heap) (k : Kind) (s : Seen) → gives_kind w heap k s ≡ true → Gives w heap k s
given w heap k (Is v) has = record { value = v; is = refl; has = has }
given w heap k Bad has = absurd (false≢true has)
given w heap k Out has = absurd (false≢true has)

module _ (p : Posed) (kinds : Kinds) (s : State) (few : length s.heap ≤ p.scope.objects) where
  abbrev m : Reading
  m = reading_of_state p kinds s

  -- at index 0 the reading has what the state has
  pub refs_at : (r : RelVar) (o : ℕ) (v : Value) → r.index ≡ 0 → m.refs r o v ≡ (is_reference p.scope.objects v && gives v (seen_at p kinds s r.what o))
  refs_at r o v zero = ap (λ b. b && is_reference p.scope.objects v && gives v (seen_at p kinds s r.what o)) (eq-eqb r.index 0 zero)

  pub number_at : (r : RelVar) (o : ℕ) → r.index ≡ 0 → m.number r o ≡ number_given (seen_at p kinds s r.what o)
  number_at r o zero = ap (λ b. if b then number_given (seen_at p kinds s r.what o) else pos 0) (eq-eqb r.index 0 zero)

  pub flag_at : (r : RelVar) (o : ℕ) → r.index ≡ 0 → m.flag r o ≡ is_true (seen_at p kinds s r.what o)
  flag_at r o zero = ap (λ b. b && is_true (seen_at p kinds s r.what o)) (eq-eqb r.index 0 zero)

  -- a value of a kind is shown where it is given
  pub value_shown : (r : RelVar) (o : ℕ) (k : Kind) (v : Value) → r.index ≡ 0 → seen_at p kinds s r.what o ≡ Is v → has_kind p.scope.ints s.heap k v ≡ true → ShowsValue m k r o v
  value_shown r o kind.Int (Num z) zero is has = sym (ap Num (number_at r o zero ∙ ap number_given is))
  value_shown r o kind.Int Null zero is has = absurd (false≢true has)
  value_shown r o kind.Int (Obj q) zero is has = absurd (false≢true has)
  value_shown r o kind.Int (Flag b) zero is has = absurd (false≢true has)
  value_shown r o kind.Flag (Flag b) zero is has = sym (ap Flag (flag_at r o zero ∙ ap is_true is))
  value_shown r o kind.Flag Null zero is has = absurd (false≢true has)
  value_shown r o kind.Flag (Obj q) zero is has = absurd (false≢true has)
  value_shown r o kind.Flag (Num z) zero is has = absurd (false≢true has)
  value_shown r o (kind.Ref c) v zero is has =
      let below = reference_below p.scope.ints s.heap p.scope.objects c v few has in
      (below, λ u. refs_at r o u zero ∙ ap (λ e. is_reference p.scope.objects u && gives u e) is ∙ same_reference p.scope.objects v u below)

  -- a field of class kind has its references where it gives them
  pub links_shown : (r : RelVar) (o : ℕ) (v : Value) (c : ℕ) (e : Seen) → r.index ≡ 0 → seen_at p kinds s r.what o ≡ e → (given : (u : Value) → e ≡ Is u → has_kind p.scope.ints s.heap (kind.Ref c) u ≡ true) → m.refs r o v ≡ gives v e
  links_shown r o v c (Is u) zero is given =
      refs_at r o v zero ∙ ap (λ e. is_reference p.scope.objects v && gives v e) is
      ∙ same_reference p.scope.objects u v (reference_below p.scope.ints s.heap p.scope.objects c u few (given u refl))
  links_shown r o v c Bad zero is given = refs_at r o v zero ∙ ap (λ e. is_reference p.scope.objects v && gives v e) is ∙ and_false (is_reference p.scope.objects v)
  links_shown r o v c Out zero is given = refs_at r o v zero ∙ ap (λ e. is_reference p.scope.objects v && gives v e) is ∙ and_false (is_reference p.scope.objects v)

-- what a field gives is of its kind
pub kind_of_given : (w : ℕ) (heap : Heap) (g : FieldDef) (o : ℕ) (e : Seen) → IsGiven w heap g o e → (u : Value) → e ≡ Is u → has_kind w heap g.kind u ≡ true
kind_of_given w heap g o e given u is =
    let not_bad : is_none (slice_get heap o) ≡ false = sym given.bad ∙ ap is_bad is in
    let not_out : not (is_none (slice_get heap o) || is_of heap g.class o) ≡ false = sym given.out ∙ ap is_out is in
    sym (ap (gives_kind w heap g.kind) is) ∙ given.value ∙ of_class (is_none (slice_get heap o)) (is_of heap g.class o) not_bad not_out
  where
    of_class : (a b : Bool) → a ≡ false → not (a || b) ≡ false → b ≡ true
    of_class a true h k = refl
    of_class true false h k = absurd (false≢true (sym h))
    of_class false false h k = absurd (false≢true (sym k))

module _ (p : Posed) (kinds : Kinds) (s : State) (at : Indices) (well : IsWell p.unit) (is : IsState p kinds s) (first : IsFirst at) where
  abbrev reading : Reading
  reading = reading_of_state p kinds s

  fields_given : (f : ℕ) (d : FieldDef) (o : ℕ) → slice_get p.unit.fields f ≡ Some d → IsGiven p.scope.ints s.heap d o (field p.unit.classes s.heap f (Obj o))
  fields_given f d o there = field_given p.unit well p.scope.ints s.heap is.objects_whole f d there o

  cell_shown : (f : ℕ) (d : FieldDef) (o : ℕ) → slice_get p.unit.fields f ≡ Some d → is_of s.heap d.class o ≡ true → ShowsCell p.unit reading at s.heap f d o
  cell_shown f d o there of =
      let gives = given p.scope.ints s.heap d.kind (field p.unit.classes s.heap f (Obj o)) ((fields_given f d o there).value ∙ of) in
      record {
        value = gives.value;
        is = gives.is;
        shown = value_shown p kinds s is.few_objects (field_relation at f) o d.kind gives.value (first.fields f) gives.is gives.has;
      }

  link_shown : (f : ℕ) (d : FieldDef) (o : ℕ) (v : Value) (k : Kind) → slice_get p.unit.fields f ≡ Some d → d.kind ≡ k → is_class_kind k ≡ true → reading.refs (field_relation at f) o v ≡ gives v (field p.unit.classes s.heap f (Obj o))
  link_shown f d o v (kind.Ref c) there same link =
      links_shown p kinds s is.few_objects (field_relation at f) o v c (field p.unit.classes s.heap f (Obj o)) (first.fields f) refl
      (λ u gives. ap (λ k. has_kind p.scope.ints s.heap k u) (sym same) ∙ kind_of_given p.scope.ints s.heap d o (field p.unit.classes s.heap f (Obj o)) (fields_given f d o there) u gives)
  link_shown f d o v kind.Int there same link = absurd (false≢true link)
  link_shown f d o v kind.Flag there same link = absurd (false≢true link)

  heap_shown : ShowsHeap p.unit reading at s.heap
  heap_shown = record {
    few = is.few_objects;
    live = λ o. flag_at p kinds s is.few_objects (live_relation at) o first.live;
    classes = λ o x there. number_at p kinds s is.few_objects (class_relation at) o first.live ∙ ap (λ y. number_given (option_map_or (λ c. Is (Num (pos c))) y Out)) (class_there o x there);
    cells = cell_shown;
    links = λ f d o v there link. link_shown f d o v d.kind there refl link;
  }
    where
      class_there : (o : ℕ) (x : Object) → slice_get s.heap o ≡ Some x → class_at s.heap o ≡ Some x.class
      class_there o x there = ap (option_map (λ (x : Object). x.class)) there

  variable_shown : (x : ℕ) (k : Kind) → kinds x ≡ Some k → ShowsValue reading k (slot_relation at x) 0 (s.value x)
  variable_shown x k there =
      value_shown p kinds s is.few_objects (slot_relation at x) 0 k (s.value x) (first.slots x) (ap (λ k. option_map_or (λ k. Is (s.value x)) k Out) there) (is.values x k there)

  pub state_shown : ShowsState p.unit kinds reading at s
  state_shown = record { heap = heap_shown; values = variable_shown }

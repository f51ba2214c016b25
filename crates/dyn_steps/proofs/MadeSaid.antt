-- A new object: what the formula says.
use Rattle.std.proofs.Common.{◌≡◌, ◌⊎◌, ℕ, zero, suc, ◌+◌, ◌-◌, ◌<◌, ◌≤◌, Bool, true, false, not, ◌&&◌, ◌||◌, List}
use Rattle.std.proofs.Common.{length, Some, inl, inr, refl, sym, ◌∙◌, ap, subst, arith}
use Rattle.std.specs.Prelude.{◌==◌, nat_lt, pos, slice_get}
use Rattle.std.specs.List.{list_all}
use Rattle.std.specs.Option.{option_map_or}
use Rattle.std.proofs.lemmas.Bool.{eq-eqb, ne_eqb, eqb-true, and_parts, and_from, or_left, or_right, false≢true, false_from_ne_true, lt-ltb, ltb-true}
use Rattle.taco_unit.specs.declared.kind.Kind.{Kind}
use Rattle.taco_unit.specs.declared.kind.Kind.TheVariants as kind
use Rattle.taco_unit.specs.declared.unit.ClassDef.{ClassDef}
use Rattle.taco_unit.specs.declared.unit.FieldDef.{FieldDef}
use Rattle.taco_unit.specs.Well.{IsWell}
use Rattle.heap_core.specs.declared.value.Value.{Value}
use Rattle.heap_core.specs.declared.value.Value.TheVariants.{Obj}
use Rattle.heap_core.specs.declared.value.Seen.TheVariants.{Is}
use Rattle.heap_core.specs.Posed.{Posed, InRange}
use Rattle.heap_core.specs.Outcomes.{is_object, zero_of}
use Rattle.heap_core.specs.Heap.{Heap}
use Rattle.heap_core.proofs.Lists.{all_from}
use Rattle.rel_core.specs.declared.relation.RelVar.{RelVar}
use Rattle.rel_core.specs.declared.relation.What.{What}
use Rattle.rel_core.specs.declared.relation.What.TheVariants as what
use Rattle.rel_core.specs.Reading.{Reading, numbers_below}
use Rattle.rel_core.specs.Meaning.{has_object, are_of, is_changed}
use Rattle.rel_core.specs.Uses.{IsOf}
use Rattle.rel_core.specs.Shown.{ShowsValue, ShowsHeap}
use Rattle.dyn_steps.specs.declared.part.Front.{Front}
use Rattle.dyn_steps.specs.Points.{slot, indices_of, IsPoint}
use Rattle.dyn_steps.specs.Agreeing.{Agree}
use Rattle.dyn_steps.specs.Meanings.{there, is_next, is_placed, is_first, field_kind, field_grown, is_made, same_sets}
use Rattle.dyn_steps.proofs.Moving.{value_moves}
use Rattle.dyn_steps.proofs.Readings.{moved}
use Rattle.dyn_steps.proofs.Numbers.{all_below, all_numbers}
use Rattle.dyn_steps.proofs.Saying.{says_set, int_same, same_int}
use Rattle.dyn_steps.proofs.Places.{IsAlikeAt, place_back, place_on, place_at, changed_here, changed_apart, changed_from}
use Rattle.dyn_steps.proofs.MovedFields.{is_listed, listed_at, all_listed, listed_there}
use Rattle.dyn_steps.proofs.FirstValues.{there_is, object_value, class_is, first_shows, shows_first}
use Rattle.dyn_steps.proofs.MadeHeap as heaps

module _ (p : Posed) (kinds : List Kind) (from : Front) (x c : ℕ) (d : ClassDef) (well : IsWell p.unit) (range : InRange p) (class : slice_get p.unit.classes c ≡ Some d)
    (point : IsPoint p kinds from.next from.at) where
  abbrev new : What → RelVar
  new = heaps.new p kinds from x c d well range class point

  abbrev given : What → RelVar
  given = heaps.given p kinds from x c d well range class point

  abbrev old : What → RelVar
  old = heaps.old p kinds from x c d well range class point

  abbrev IsMoved : What → Type 0
  IsMoved = heaps.IsMoved p kinds from x c d well range class point

  abbrev IsMade : Reading → ℕ → Type 0
  IsMade = heaps.IsMade p kinds from x c d well range class point

  -- ## what the formula says

  abbrev pub Of : Reading → Type 0
  Of = IsOf p (slice_get kinds)

  abbrev pub target_relation : RelVar
  target_relation = slot x from.next

  -- the objects of the variable
  alone : (m : Reading) (h : ℕ) → ShowsValue m (kind.Ref c) target_relation 0 (Obj h) → (q : ℕ) → has_object (m.refs target_relation 0) q ≡ (h == q)
  alone m h target q = target.1 (Obj q)

  grown_here : (m : Reading) (h : ℕ) → Of m → h < m.objects → ShowsValue m (kind.Ref c) target_relation 0 (Obj h) → (w : What)
      → is_changed m (new w) (m.refs target_relation 0) (given w) (old w) ≡ true → IsAlikeAt m (given w) 0 m (new w) h
  grown_here m h of low target w changed = changed_here p (slice_get kinds) m of (new w) (m.refs target_relation 0) (given w) (old w) changed h low (alone m h target h ∙ eq-eqb h h refl)

  grown_apart : (m : Reading) (h : ℕ) → Of m → ShowsValue m (kind.Ref c) target_relation 0 (Obj h) → (w : What) → is_changed m (new w) (m.refs target_relation 0) (given w) (old w) ≡ true
      → (o : ℕ) → (o ≡ h → ⊥) → IsAlikeAt m (old w) o m (new w) o
  grown_apart m h of target w changed o other = changed_apart p (slice_get kinds) m of (new w) (m.refs target_relation 0) (given w) (old w) changed o
      (alone m h target o ∙ ne_eqb h o (λ same. other (sym same)))

  grown_from : (m : Reading) (h : ℕ) → Of m → ShowsValue m (kind.Ref c) target_relation 0 (Obj h) → (w : What) → IsAlikeAt m (given w) 0 m (new w) h
      → ((o : ℕ) → (o ≡ h → ⊥) → IsAlikeAt m (old w) o m (new w) o)
      → is_changed m (new w) (m.refs target_relation 0) (given w) (old w) ≡ true
  grown_from m h of target w here apart = changed_from p (slice_get kinds) m of (new w) (m.refs target_relation 0) (given w) (old w)
      (λ o low has. subst (λ i. IsAlikeAt m (given w) 0 m (new w) i) (eqb-true h o (sym (alone m h target o) ∙ has)) here)
      (λ o lacks. apart o (λ same. false≢true (sym lacks ∙ alone m h target o ∙ eq-eqb h o (sym same))))

  -- the next object is the one behind all that are there
  next_is : (m : Reading) (heap : Heap) (o : ℕ) → o < m.objects → ShowsHeap p.unit m (indices_of from.at) heap
      → is_next m (old what.Live) o ≡ (not (nat_lt o (length heap)) && (o == 0 || nat_lt (o - 1) (length heap)))
  next_is m heap o low shown =
      ap (λ b. not b && (o == 0 || there m (old what.Live) (o - 1))) (there_is m (old what.Live) o low ∙ shown.live o)
      ∙ ap (λ b. not (nat_lt o (length heap)) && (o == 0 || b)) (there_is m (old what.Live) (o - 1) (omega (arith, low)) ∙ shown.live (o - 1))

  next_here : (h : ℕ) → (not (nat_lt h h) && (h == 0 || nat_lt (h - 1) h)) ≡ true
  next_here zero = refl
  next_here (suc h) = and_from (not (nat_lt (suc h) (suc h))) (suc h == 0 || nat_lt (suc h - 1) (suc h))
      (ap not (false_from_ne_true (nat_lt (suc h) (suc h)) (λ is. let low : suc h < suc h = ltb-true (suc h) (suc h) is in absurd (omega (arith, low)))))
      (or_right (suc h == 0) (nat_lt (suc h - 1) (suc h)) (lt-ltb (suc h - 1) (suc h) (omega arith)))

  next_only : (o h : ℕ) → (not (nat_lt o h) && (o == 0 || nat_lt (o - 1) h)) ≡ true → o ≡ h
  next_only o h is =
      let both = and_parts (not (nat_lt o h)) (o == 0 || nat_lt (o - 1) h) is in
      let high : h ≤ o = at_least (nat_lt o h) refl both.0 in
      low (o == 0) refl both.1 high
    where
      at_least : (b : Bool) → nat_lt o h ≡ b → not b ≡ true → h ≤ o
      at_least true less never = absurd (false≢true never)
      at_least false less never = elim (cases_lt o h) [
        | inl small ↦ absurd (false≢true (sym less ∙ lt-ltb o h small))
        | inr big ↦ big
      ]
        where
          cases_lt : (a b : ℕ) → (a < b) ⊎ (b ≤ a)
          cases_lt a b = by (nat_lt a b) refl
            where
              by : (t : Bool) → nat_lt a b ≡ t → (a < b) ⊎ (b ≤ a)
              by true is = inl (ltb-true a b is)
              by false is = inr (grind (arith, is))

      low : (b : Bool) → (o == 0) ≡ b → (b || nat_lt (o - 1) h) ≡ true → h ≤ o → o ≡ h
      low true first is high = let none : o ≡ 0 = eqb-true o 0 first in omega (arith, none, high)
      low false first is high = let before : o - 1 < h = ltb-true (o - 1) h is in let some : (o ≡ 0 → ⊥) = (λ same. false≢true (sym first ∙ eq-eqb o 0 same)) in omega (arith, before, high, some)

  -- ## the formula and what it says

  abbrev room_left : Reading → Bool
  room_left m = not (there m (old what.Live) (p.scope.objects - 1))

  abbrev placed_all : Reading → Bool
  placed_all m = list_all (is_placed m target_relation (old what.Live)) (numbers_below p.scope.objects)

  abbrev live_grown : Reading → Bool
  live_grown m = there m (given what.Live) 0 && is_changed m (new what.Live) (m.refs target_relation 0) (given what.Live) (old what.Live)

  abbrev class_grown : Reading → Bool
  class_grown m = are_of m (is_object 0) c (given what.ClassOf) && is_changed m (new what.ClassOf) (m.refs target_relation 0) (given what.ClassOf) (old what.ClassOf)

  abbrev fields_grown : Reading → Bool
  fields_grown m = list_all (field_grown m p.unit.fields from.at from.next target_relation) d.fields

  abbrev pub made : Reading → Bool
  made m = is_made m p from.at from.next x c d.fields

  record Pieces (m : Reading) : Type 0 where
    pub room : room_left m ≡ true
    pub placed : placed_all m ≡ true
    pub live : live_grown m ≡ true
    pub classes : class_grown m ≡ true
    pub fields : fields_grown m ≡ true

  pieces : (m : Reading) → made m ≡ true → Pieces m
  pieces m is =
      let four = and_parts (room_left m && placed_all m && live_grown m && class_grown m) (fields_grown m) is in
      let three = and_parts (room_left m && placed_all m && live_grown m) (class_grown m) four.0 in
      let two = and_parts (room_left m && placed_all m) (live_grown m) three.0 in
      let one = and_parts (room_left m) (placed_all m) two.0 in
      record { room = one.0; placed = one.1; live = two.1; classes = three.1; fields = four.1 }

  gathered : (m : Reading) → Pieces m → made m ≡ true
  gathered m q =
      and_from (room_left m && placed_all m && live_grown m && class_grown m) (fields_grown m)
      (and_from (room_left m && placed_all m && live_grown m) (class_grown m)
      (and_from (room_left m && placed_all m) (live_grown m) (and_from (room_left m) (placed_all m) q.room q.placed) q.live) q.classes) q.fields

  some_objects : (m : Reading) → Of m → 0 < m.objects
  some_objects m of = let low = range.scope.objects_low in let same = of.objects in omega (arith, low, same)

  known_kind : (f : ℕ) (e : FieldDef) → slice_get p.unit.fields f ≡ Some e → field_kind p.unit.fields f ≡ e.kind
  known_kind f e there = ap (λ o. option_map_or (λ (e : FieldDef). e.kind) o kind.Int) there

  implied : (a b : Bool) → (not a || b) ≡ true → a ≡ true → b ≡ true
  implied true b is has = is
  implied false b is has = absurd (false≢true has)

  not_less : (b : Bool) → not b ≡ true → b ≡ false
  not_less false is = refl
  not_less true is = absurd (false≢true is)

  not_below : (a b : ℕ) → nat_lt a b ≡ false → b ≤ a
  not_below a b is = grind (arith, is)

  has_room_left : (m : Reading) (heap : Heap) → Of m → ShowsHeap p.unit m (indices_of from.at) heap → room_left m ≡ true → length heap < p.scope.objects
  has_room_left m heap of shown is =
      let low = range.scope.objects_low in
      let objects = of.objects in
      let last : p.scope.objects - 1 < m.objects = omega (arith, low, objects) in
      let free : nat_lt (p.scope.objects - 1) (length heap) ≡ false = sym (there_is m (old what.Live) (p.scope.objects - 1) last ∙ shown.live (p.scope.objects - 1))
      ∙ not_less (there m (old what.Live) (p.scope.objects - 1)) is in
      let high : length heap ≤ p.scope.objects - 1 = not_below (p.scope.objects - 1) (length heap) free in
      omega (arith, low, high)

  placed_target : (m : Reading) (heap : Heap) → Of m → ShowsHeap p.unit m (indices_of from.at) heap → length heap < m.objects → placed_all m ≡ true
      → ShowsValue m (kind.Ref c) target_relation 0 (Obj (length heap))
  placed_target m heap of shown low is =
      let h = length heap in
      let objects = of.objects in
      let at_last = all_below (is_placed m target_relation (old what.Live)) 0 p.scope.objects h is (omega arith) (omega (arith, low, objects)) in
      let same = implied (is_next m (old what.Live) h) (same_sets m (m.refs target_relation 0) (is_object h)) at_last (next_is m heap h low shown ∙ next_here h) in
      let said = (says_set p (slice_get kinds) m of c target_relation (is_object h) (Obj h) (lt-ltb h m.objects low) (object_value h)).sound same in
      subst (λ v. ShowsValue m (kind.Ref c) target_relation 0 v) (values (sym said.1)) said.2
    where
      values : {u v : Value} → Is u ≡ Is v → u ≡ v
      values is = cc

  pub made_sound : (m : Reading) (heap : Heap) → Of m → ShowsHeap p.unit m (indices_of from.at) heap → made m ≡ true → (length heap < p.scope.objects) × IsMade m (length heap)
  made_sound m heap of shown is = (
    room,
    record {
      target = target;
      live_first = sym (there_is m (given what.Live) 0 some) ∙ live.0;
      class_first = int_same (m.number (given what.ClassOf) 0) (pos c) (sym (class_is m 0 c (given what.ClassOf) some) ∙ classes.0);
      first = λ f e there listed. first_shows p (slice_get kinds) m of some e.kind (given (what.Field f))
          (ap (λ k. is_first m k (given (what.Field f))) (sym (known_kind f e there)) ∙ (field_is f listed).0);
      here = here;
      apart = apart;
    },
  )
    where
      q : Pieces m
      q = pieces m is

      some : 0 < m.objects
      some = some_objects m of

      room : length heap < p.scope.objects
      room = has_room_left m heap of shown q.room

      low : length heap < m.objects
      low = let objects = of.objects in omega (arith, room, objects)

      target : ShowsValue m (kind.Ref c) target_relation 0 (Obj (length heap))
      target = placed_target m heap of shown low q.placed

      live : (there m (given what.Live) 0 ≡ true) × (is_changed m (new what.Live) (m.refs target_relation 0) (given what.Live) (old what.Live) ≡ true)
      live = and_parts (there m (given what.Live) 0) (is_changed m (new what.Live) (m.refs target_relation 0) (given what.Live) (old what.Live)) q.live

      classes : (are_of m (is_object 0) c (given what.ClassOf) ≡ true) × (is_changed m (new what.ClassOf) (m.refs target_relation 0) (given what.ClassOf) (old what.ClassOf) ≡ true)
      classes = and_parts (are_of m (is_object 0) c (given what.ClassOf)) (is_changed m (new what.ClassOf) (m.refs target_relation 0) (given what.ClassOf) (old what.ClassOf)) q.classes

      field_is : (f : ℕ) → is_listed d.fields f ≡ true → (is_first m (field_kind p.unit.fields f) (given (what.Field f)) ≡ true)
          × (is_changed m (new (what.Field f)) (m.refs target_relation 0) (given (what.Field f)) (old (what.Field f)) ≡ true)
      field_is f listed = and_parts (is_first m (field_kind p.unit.fields f) (given (what.Field f)))
          (is_changed m (new (what.Field f)) (m.refs target_relation 0) (given (what.Field f)) (old (what.Field f)))
          (all_listed (field_grown m p.unit.fields from.at from.next target_relation) d.fields f q.fields listed)

      changed : (w : What) → IsMoved w → is_changed m (new w) (m.refs target_relation 0) (given w) (old w) ≡ true
      changed what.Live moved = live.1
      changed what.ClassOf moved = classes.1
      changed (what.Field f) moved = (field_is f moved).1
      changed (what.Slot y) moved = absurd moved

      here : (w : What) → IsMoved w → IsAlikeAt m (given w) 0 m (new w) (length heap)
      here w moved = grown_here m (length heap) of low target w (changed w moved)

      apart : (w : What) → IsMoved w → (o : ℕ) → (o ≡ length heap → ⊥) → IsAlikeAt m (old w) o m (new w) o
      apart w moved = grown_apart m (length heap) of target w (changed w moved)

  pub made_full : (m : Reading) (heap : Heap) → Of m → ShowsHeap p.unit m (indices_of from.at) heap → length heap < p.scope.objects → IsMade m (length heap) → made m ≡ true
  made_full m heap of shown room is = gathered m (record {
    room = ap not (there_is m (old what.Live) (p.scope.objects - 1) last ∙ shown.live (p.scope.objects - 1) ∙ false_from_ne_true (nat_lt (p.scope.objects - 1) (length heap)) (λ less.
        let below : p.scope.objects - 1 < length heap = ltb-true (p.scope.objects - 1) (length heap) less in absurd (omega (arith, below, room, objects_low))));
    placed = all_numbers (is_placed m target_relation (old what.Live)) 0 p.scope.objects (λ o below. placed o (let same = of.objects in omega (arith, below, same)) (is_next m (old what.Live) o) refl);
    live = and_from (there m (given what.Live) 0) (is_changed m (new what.Live) (m.refs target_relation 0) (given what.Live) (old what.Live))
        (there_is m (given what.Live) 0 some ∙ is.live_first) (changed what.Live tt);
    classes = and_from (are_of m (is_object 0) c (given what.ClassOf)) (is_changed m (new what.ClassOf) (m.refs target_relation 0) (given what.ClassOf) (old what.ClassOf))
        (class_is m 0 c (given what.ClassOf) some ∙ same_int (m.number (given what.ClassOf) 0) (pos c) is.class_first) (changed what.ClassOf tt);
    fields = all_from (field_grown m p.unit.fields from.at from.next target_relation) d.fields (λ i f at.
        let listed = listed_at d.fields i f at in
        let e = listed_there p.unit well c d class f listed in
        and_from (is_first m (field_kind p.unit.fields f) (given (what.Field f))) (is_changed m (new (what.Field f)) (m.refs target_relation 0) (given (what.Field f)) (old (what.Field f)))
        (ap (λ k. is_first m k (given (what.Field f))) (known_kind f e.0 e.1) ∙ shows_first p (slice_get kinds) m of some e.0.kind (given (what.Field f)) (is.first f e.0 e.1 listed))
        (changed (what.Field f) listed));
  })
    where
      objects_low : 1 ≤ p.scope.objects
      objects_low = range.scope.objects_low

      some : 0 < m.objects
      some = some_objects m of

      last : p.scope.objects - 1 < m.objects
      last = let same = of.objects in omega (arith, objects_low, same)

      changed : (w : What) → IsMoved w → is_changed m (new w) (m.refs target_relation 0) (given w) (old w) ≡ true
      changed w moved = grown_from m (length heap) of is.target w (is.here w moved) (is.apart w moved)

      placed : (o : ℕ) → o < m.objects → (b : Bool) → is_next m (old what.Live) o ≡ b → is_placed m target_relation (old what.Live) o ≡ true
      placed o low false next = or_left (not (is_next m (old what.Live) o)) (same_sets m (m.refs target_relation 0) (is_object o)) (ap not next)
      placed o low true next =
          let same : o ≡ length heap = next_only o (length heap) (sym (next_is m heap o low shown) ∙ next) in
          or_right (not (is_next m (old what.Live) o)) (same_sets m (m.refs target_relation 0) (is_object o))
          ((says_set p (slice_get kinds) m of c target_relation (is_object o) (Obj o) (lt-ltb o m.objects low) (object_value o)).full (Obj o) refl
          (subst (λ i. ShowsValue m (kind.Ref c) target_relation 0 (Obj i)) (sym same) is.target))

  -- ## another reading that agrees

  pub made_agree : (m u : Reading) (h : ℕ) → u.objects ≡ m.objects → Agree (from.next + 1 + 1) m u → IsMade m h → IsMade u h
  made_agree m u h same agree is = record {
    target = value_moves m target_relation u target_relation (kind.Ref c) 0 (Obj h) same (agree target_relation (omega arith)) is.target;
    live_first = (agree (given what.Live) (omega arith)).flag 0 ∙ is.live_first;
    class_first = (agree (given what.ClassOf) (omega arith)).number 0 ∙ is.class_first;
    first = λ f e there listed. value_moves m (given (what.Field f)) u (given (what.Field f)) e.kind 0 (zero_of e.kind) same (agree (given (what.Field f)) (omega arith)) (is.first f e there listed);
    here = λ w moved. place_on (place_back (place_at (agree (given w) (omega arith)) 0)) (place_on (is.here w moved) (place_at (agree (new w) (omega arith)) h));
    apart = λ w moved o other.
        let low = point.below w in
        place_on (place_back (place_at (agree (old w) (omega (arith, low))) o)) (place_on (is.apart w moved o other) (place_at (agree (new w) (omega arith)) o));
  }

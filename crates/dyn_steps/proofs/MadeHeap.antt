-- A new object: what it changes, and the heap with it.
use Rattle.std.proofs.Common.{◌≡◌, ◌⊎◌, ℕ, ◌+◌, ◌<◌, Bool, true, false, List}
use Rattle.std.proofs.Common.{length, Option, Some, None, inl, inr, refl, sym, ◌∙◌, ap, subst, arith}
use Rattle.std.specs.Prelude.{◌==◌, nat_lt, pos, if◌then◌else◌, slice_get, option_map}
use Rattle.std.specs.Option.{option_map_or}
use Rattle.std.proofs.lemmas.Bool.{cases_eq, eq-eqb, ne_eqb, eqb-true, false≢true, false_from_ne_true, lt-ltb, ltb-true}
use Rattle.std.proofs.lemmas.Option.{slice_get_within}
use Rattle.taco_unit.specs.declared.kind.Kind.{Kind}
use Rattle.taco_unit.specs.declared.kind.Kind.TheVariants as kind
use Rattle.taco_unit.specs.declared.unit.ClassDef.{ClassDef}
use Rattle.taco_unit.specs.declared.unit.FieldDef.{FieldDef}
use Rattle.taco_unit.specs.Kinds.{is_class_kind}
use Rattle.taco_unit.specs.Well.{IsWell}
use Rattle.heap_core.specs.declared.value.Value.{Value}
use Rattle.heap_core.specs.declared.value.Value.TheVariants.{Null, Obj}
use Rattle.heap_core.specs.declared.value.Object.{Object}
use Rattle.heap_core.specs.declared.value.Seen.TheVariants.{Is, Out}
use Rattle.heap_core.specs.Posed.{Posed, InRange}
use Rattle.heap_core.specs.Outcomes.{gives, is_value, zero_of}
use Rattle.heap_core.specs.Heap.{Heap, is_of, class_at, cell_of, field, declares, first_value}
use Rattle.heap_core.proofs.FieldLaws.{none_some, some_same}
use Rattle.heap_core.proofs.GivenFields.{IsGrown, grown_length, grown_class, grown_field}
use Rattle.rel_core.specs.declared.relation.RelVar.{RelVar}
use Rattle.rel_core.specs.declared.relation.What.{What}
use Rattle.rel_core.specs.declared.relation.What.TheVariants as what
use Rattle.rel_core.specs.Reading.{Reading}
use Rattle.rel_core.specs.Shown.{ShowsValue, ShowsCell, ShowsHeap, field_relation}
use Rattle.dyn_steps.specs.declared.point.Point.{Point}
use Rattle.dyn_steps.specs.declared.part.Front.{Front}
use Rattle.dyn_steps.specs.Points.{relation_at, slot, indices_of, fields_moved, IsPoint}
use Rattle.dyn_steps.specs.Meanings.{there}
use Rattle.dyn_steps.proofs.Places.{IsAlikeAt, place_moves}
use Rattle.dyn_steps.proofs.Puts.{is_of_class}
use Rattle.dyn_steps.proofs.MovedFields.{is_listed, listed_declared, listed_own, fields_kept, fields_new}

-- ## what a new object changes

module _ (p : Posed) (kinds : List Kind) (from : Front) (x c : ℕ) (d : ClassDef) (well : IsWell p.unit) (range : InRange p) (class : slice_get p.unit.classes c ≡ Some d)
    (point : IsPoint p kinds from.next from.at) where
  abbrev pub new : What → RelVar
  new w = record { what = w; index = from.next }

  abbrev pub given : What → RelVar
  given w = record { what = w; index = from.next + 1 }

  abbrev pub old : What → RelVar
  old w = relation_at from.at w

  -- what has another index, but for the variable
  abbrev pub IsMoved : What → Type 0
  IsMoved what.Live = Unit {0}
  IsMoved what.ClassOf = Unit {0}
  IsMoved (what.Field f) = is_listed d.fields f ≡ true
  IsMoved (what.Slot y) = ⊥

  -- the variable is the object of this number, which has the values with which it begins; all others have what they had
  pub record IsMade (m : Reading) (h : ℕ) : Type 0 where
    pub target : ShowsValue m (kind.Ref c) (slot x from.next) 0 (Obj h)
    pub live_first : m.flag (given what.Live) 0 ≡ true
    pub class_first : m.number (given what.ClassOf) 0 ≡ pos c
    pub first : (f : ℕ) (e : FieldDef) → slice_get p.unit.fields f ≡ Some e → is_listed d.fields f ≡ true → ShowsValue m e.kind (given (what.Field f)) 0 (zero_of e.kind)
    pub here : (w : What) → IsMoved w → IsAlikeAt m (given w) 0 m (new w) h
    pub apart : (w : What) → IsMoved w → (o : ℕ) → (o ≡ h → ⊥) → IsAlikeAt m (old w) o m (new w) o

  -- ## the heap with the new object

  -- with other indices for the heap alone
  abbrev pub middle : Point
  middle = record (fields_moved from.at d.fields from.next) { live = from.next }

  field_new : (f : ℕ) (e : FieldDef) → slice_get p.unit.fields f ≡ Some e → is_listed d.fields f ≡ true → field_relation (indices_of middle) f ≡ new (what.Field f)
  field_new f e there listed =
      let low : f < length p.unit.fields = slice_get_within p.unit.fields f e there in
      let fields = point.fields in
      ap (λ (i : ℕ). record { what = what.Field f; index = i }) (fields_new d.fields from.at f from.next (omega (arith, low, fields)) listed)

  field_old : (f : ℕ) → is_listed d.fields f ≡ false → field_relation (indices_of middle) f ≡ field_relation (indices_of from.at) f
  field_old f other = ap (λ (i : ℕ). record { what = what.Field f; index = i }) (fields_kept d.fields from.at f from.next other)

  no_object : (heap : Heap) → slice_get heap (length heap) ≡ None
  no_object heap = at (slice_get heap (length heap)) refl
    where
      at : (y : Option Object) → slice_get heap (length heap) ≡ y → slice_get heap (length heap) ≡ None
      at None is = is
      at (Some y) is = let low : length heap < length heap = slice_get_within heap (length heap) y is in absurd (omega (arith, low))

  refs_of : (m : Reading) (k : Kind) (r : RelVar) (o : ℕ) (v w : Value) → is_class_kind k ≡ true → ShowsValue m k r o v → m.refs r o w ≡ is_value v w
  refs_of m (kind.Ref e) r o v w is shown = shown.1 w
  refs_of m kind.Int r o v w is shown = absurd (false≢true is)
  refs_of m kind.Flag r o v w is shown = absurd (false≢true is)

  -- of which class the new object is, and what its fields give
  pub new_of : (heap after : Heap) → IsGrown p heap c after → (k o : ℕ) → o ≡ length heap → is_of after k o ≡ (c == k)
  new_of heap after g k o same = is_of_class after k o ∙ ap (λ z. option_map_or (λ l. l == k) z false) (grown_class g o ∙ ap (λ b. if b then Some c else class_at heap o) (eq-eqb o (length heap) same))

  pub new_field : (heap after : Heap) → IsGrown p heap c after → (f o : ℕ) (e : FieldDef) → slice_get p.unit.fields f ≡ Some e → is_listed d.fields f ≡ true → o ≡ length heap
      → field p.unit.classes after f (Obj o) ≡ Is (zero_of e.kind)
  new_field heap after g f o e there listed same =
      grown_field g f o
      ∙ ap (λ b. if b then (if declares p.unit.classes c f then Is (first_value p.unit.fields f) else Out) else field p.unit.classes heap f (Obj o)) (eq-eqb o (length heap) same)
      ∙ ap (λ b. if b then Is (first_value p.unit.fields f) else Out) (sym (listed_declared p.unit well c d class f) ∙ listed)
      ∙ ap (λ z. Is (option_map_or (λ (e : FieldDef). zero_of e.kind) z Null)) there

  pub made_heap : (m : Reading) (heap after : Heap) → IsGrown p heap c after → m.objects ≡ p.scope.objects → ShowsHeap p.unit m (indices_of from.at) heap → IsMade m (length heap)
      → ShowsHeap p.unit m (indices_of middle) after
  made_heap m heap after g objects shown made = record {
    few = let room = g.room in let more = grown_length g in omega (arith, room, more, objects);
    live = λ o. live_after o (cases_eq o (length heap));
    classes = λ o y is. class_after o y.class (sym (grown_class g o) ∙ ap (option_map (λ (y : Object). y.class)) is) (cases_eq o (length heap));
    cells = λ f e o there of. cell_after f e o there of (cases_eq o (length heap)) (is_listed d.fields f) refl;
    links = λ f e o v there kinded. link_after f e o v there kinded (cases_eq o (length heap)) (is_listed d.fields f) refl;
  }
    where
      live_after : (o : ℕ) → (o ≡ length heap) ⊎ (o ≡ length heap → ⊥) → m.flag (new what.Live) o ≡ nat_lt o (length after)
      live_after o (inl same) =
          ap (λ i. m.flag (new what.Live) i) same ∙ (made.here what.Live tt).flag ∙ made.live_first
          ∙ sym (lt-ltb o (length after) (let more = grown_length g in omega (arith, same, more)))
      live_after o (inr other) =
          (made.apart what.Live tt o other).flag ∙ shown.live o ∙ ap_lengths (nat_lt o (length heap)) refl
        where
          ap_lengths : (b : Bool) → nat_lt o (length heap) ≡ b → nat_lt o (length heap) ≡ nat_lt o (length after)
          ap_lengths true is = is ∙ sym (lt-ltb o (length after) (let more = grown_length g in let low : o < length heap = ltb-true o (length heap) is in omega (arith, low, more)))
          ap_lengths false is = is ∙ sym (false_from_ne_true (nat_lt o (length after)) (λ low.
              let below : o < length after = ltb-true o (length after) low in
              let more = grown_length g in
              false≢true (sym is ∙ lt-ltb o (length heap) (let less : o < length heap = omega (arith, below, more, other) in less))))

      class_after : (o k : ℕ) → (if o == length heap then Some c else class_at heap o) ≡ Some k → (o ≡ length heap) ⊎ (o ≡ length heap → ⊥) → m.number (new what.ClassOf) o ≡ pos k
      class_after o k is (inl same) =
          let one : c ≡ k = some_same (sym (ap (λ b. if b then Some c else class_at heap o) (eq-eqb o (length heap) same)) ∙ is) in
          ap (λ i. m.number (new what.ClassOf) i) same ∙ (made.here what.ClassOf tt).number ∙ made.class_first ∙ ap pos one
      class_after o k is (inr other) =
          let before : class_at heap o ≡ Some k = sym (ap (λ b. if b then Some c else class_at heap o) (ne_eqb o (length heap) other)) ∙ is in
          (made.apart what.ClassOf tt o other).number ∙ known (slice_get heap o) refl before
        where
          known : (y : Option Object) → slice_get heap o ≡ y → option_map (λ (y : Object). y.class) y ≡ Some k → m.number (old what.ClassOf) o ≡ pos k
          known (Some y) at is = shown.classes o y at ∙ ap pos (some_same is)
          known None at is = absurd (none_some is)

      -- of which class an object is afterwards
      of_old : (k o : ℕ) → (o ≡ length heap → ⊥) → is_of after k o ≡ is_of heap k o
      of_old k o other =
          is_of_class after k o ∙ ap (λ z. option_map_or (λ l. l == k) z false) (grown_class g o ∙ ap (λ b. if b then Some c else class_at heap o) (ne_eqb o (length heap) other))
          ∙ sym (is_of_class heap k o)

      field_lacks : (f o : ℕ) → is_listed d.fields f ≡ false → o ≡ length heap → field p.unit.classes after f (Obj o) ≡ Out
      field_lacks f o other same =
          grown_field g f o
          ∙ ap (λ b. if b then (if declares p.unit.classes c f then Is (first_value p.unit.fields f) else Out) else field p.unit.classes heap f (Obj o)) (eq-eqb o (length heap) same)
          ∙ ap (λ b. if b then Is (first_value p.unit.fields f) else Out) (sym (listed_declared p.unit well c d class f) ∙ other)

      field_kept : (f o : ℕ) → (o ≡ length heap → ⊥) → field p.unit.classes after f (Obj o) ≡ field p.unit.classes heap f (Obj o)
      field_kept f o other =
          grown_field g f o
          ∙ ap (λ b. if b then (if declares p.unit.classes c f then Is (first_value p.unit.fields f) else Out) else field p.unit.classes heap f (Obj o)) (ne_eqb o (length heap) other)

      cell_after : (f : ℕ) (e : FieldDef) (o : ℕ) → slice_get p.unit.fields f ≡ Some e → is_of after e.class o ≡ true → (o ≡ length heap) ⊎ (o ≡ length heap → ⊥) → (b : Bool)
          → is_listed d.fields f ≡ b → ShowsCell p.unit m (indices_of middle) after f e o
      cell_after f e o there of (inl same) true listed = record {
        value = zero_of e.kind;
        is = new_field heap after g f o e there listed same;
        shown =
            subst (λ r. ShowsValue m e.kind r o (zero_of e.kind)) (sym (field_new f e there listed))
            (subst (λ i. ShowsValue m e.kind (new (what.Field f)) i (zero_of e.kind)) (sym same)
            (place_moves m (given (what.Field f)) 0 m (new (what.Field f)) (length heap) e.kind (zero_of e.kind) refl (made.here (what.Field f) listed) (made.first f e there listed)));
      }
      cell_after f e o there of (inl same) false other =
          let own : c ≡ e.class = eqb-true c e.class (sym (new_of heap after g e.class o same) ∙ of) in
          absurd (false≢true (sym other ∙ listed_own p.unit well c d class f e there ∙ eq-eqb e.class c (sym own)))
      cell_after f e o there of (inr apart) true listed =
          let cell = shown.cells f e o there (sym (of_old e.class o apart) ∙ of) in
          record {
            value = cell.value;
            is = field_kept f o apart ∙ cell.is;
            shown = subst (λ r. ShowsValue m e.kind r o cell.value) (sym (field_new f e there listed))
                (place_moves m (old (what.Field f)) o m (new (what.Field f)) o e.kind cell.value refl (made.apart (what.Field f) listed o apart) cell.shown);
          }
      cell_after f e o there of (inr apart) false other =
          let cell = shown.cells f e o there (sym (of_old e.class o apart) ∙ of) in
          record { value = cell.value; is = field_kept f o apart ∙ cell.is; shown = subst (λ r. ShowsValue m e.kind r o cell.value) (sym (field_old f other)) cell.shown }

      link_after : (f : ℕ) (e : FieldDef) (o : ℕ) (v : Value) → slice_get p.unit.fields f ≡ Some e → is_class_kind e.kind ≡ true → (o ≡ length heap) ⊎ (o ≡ length heap → ⊥) → (b : Bool)
          → is_listed d.fields f ≡ b
          → m.refs (field_relation (indices_of middle) f) o v ≡ gives v (field p.unit.classes after f (Obj o))
      link_after f e o v there kinded (inl same) true listed =
          ap (λ r. m.refs r o v) (field_new f e there listed) ∙ ap (λ i. m.refs (new (what.Field f)) i v) same ∙ (made.here (what.Field f) listed).refs v
          ∙ refs_of m e.kind (given (what.Field f)) 0 (zero_of e.kind) v kinded (made.first f e there listed) ∙ ap (gives v) (sym (new_field heap after g f o e there listed same))
      link_after f e o v there kinded (inl same) false other =
          ap (λ r. m.refs r o v) (field_old f other) ∙ shown.links f e o v there kinded
          ∙ ap (λ i. gives v (cell_of p.unit.classes f (slice_get heap i))) same ∙ ap (λ y. gives v (cell_of p.unit.classes f y)) (no_object heap)
          ∙ ap (gives v) (sym (field_lacks f o other same))
      link_after f e o v there kinded (inr apart) true listed =
          ap (λ r. m.refs r o v) (field_new f e there listed) ∙ (made.apart (what.Field f) listed o apart).refs v ∙ shown.links f e o v there kinded ∙ ap (gives v) (sym (field_kept f o apart))
      link_after f e o v there kinded (inr apart) false other =
          ap (λ r. m.refs r o v) (field_old f other) ∙ shown.links f e o v there kinded ∙ ap (gives v) (sym (field_kept f o apart))

-- Laws of fields in a well unit: which class declares a field, what it gives, and what a new object has.
use Rattle.std.proofs.Common.{◌≡◌, ℕ, ◌<◌, ◌≤◌, ◌+◌, ◌^◌, Bool, true, false, not, ◌||◌, [], ◌∷◌, ◌++◌, length, Option, Some, None, refl, sym, ◌∙◌, subst, ap, inl, inr, arith, get_or}
use Rattle.std.specs.Prelude.{◌==◌, ◌-◌, nat_lt, if◌then◌else◌, map, filter, position, slice_get, option_map, option_and_then, is_some, is_none}
use Rattle.std.specs.List.{list_all, list_any, range_with_len}
use Rattle.std.specs.Option.{option_map_or}
use Rattle.std.specs.Cmp.Lexicographic.{pointwise}
use Rattle.std.proofs.lemmas.Bool.{false≢true, cases_eq, eqb-true, eq-eqb, ne_eqb}
use Rattle.std.proofs.lemmas.Nat.{pow_pos}
use Rattle.std.proofs.lemmas.Option.{slice_get_within, slice_get-map, slice_get-get_or, slice_get_past}
use Rattle.std.proofs.lemmas.List.{length-append}
use Rattle.std.proofs.lemmas.List.Folds.{list_any_at}
use Rattle.std.proofs.lemmas.List.FromFn.{length-range_with_len, get_or-range_with_len}
use Rattle.std.proofs.lemmas.List.Quantifiers.{position-Some}
use Rattle.taco_unit.specs.declared.unit.ClassDef.{ClassDef}
use Rattle.taco_unit.specs.declared.unit.FieldDef.{FieldDef}
use Rattle.taco_unit.specs.declared.kind.Kind.{Kind}
use Rattle.taco_unit.specs.declared.kind.Kind.TheVariants as kind
use Rattle.taco_unit.specs.Parts.{Parts}
use Rattle.taco_unit.specs.Well.{IsWell}
use Rattle.heap_core.specs.declared.value.Value.{Value}
use Rattle.heap_core.specs.declared.value.Value.TheVariants.{Null, Obj}
use Rattle.heap_core.specs.declared.value.Object.{Object}
use Rattle.heap_core.specs.declared.value.Seen.{Seen}
use Rattle.heap_core.specs.declared.value.Seen.TheVariants.{Is, Out}
use Rattle.heap_core.specs.Posed.{Posed}
use Rattle.heap_core.specs.Outcomes.{value_in, zero_of, is_bad, is_out}
use Rattle.heap_core.specs.Heap.{Heap, is_of, class_at, place_of, declares, cell, cell_of, field, first_value, blank, has_room, grown}
use Rattle.heap_core.specs.Start.{has_kind, has_field_kind, is_whole}
use Rattle.taco_unit.proofs.Lists.{append_last}
use Rattle.heap_core.proofs.Lists.{slice_get-append_left, all_at, all_from, beside, beside_map, place_found, all_filtered, any_filtered}
use Rattle.heap_core.proofs.FieldLaws.{whole_kept, Keeps, none_some, some_same, below}

-- ## which class declares a field

-- the field is one of this class
abbrev of_class : Parts → ℕ → ℕ → Bool
of_class u c f = option_map_or (λ g. g.class == c) (slice_get u.fields f) false

-- the fields that a class lists are its own
listed_own : (u : Parts) → IsWell u → (c : ℕ) (d : ClassDef) → slice_get u.classes c ≡ Some d → (i f : ℕ) → slice_get d.fields i ≡ Some f → of_class u c f ≡ true
listed_own u well c d there i f at =
    all_at (of_class u c) (filter (of_class u c) (range_with_len 0 (length u.fields))) i f (all_filtered (of_class u c) (range_with_len 0 (length u.fields))) (ap (λ fs. slice_get fs i) (sym (well.classes c d there).lists_fields) ∙ at)

-- and each of its own is listed
own_listed : (u : Parts) → IsWell u → (c : ℕ) (d : ClassDef) → slice_get u.classes c ≡ Some d → (f : ℕ) (g : FieldDef) → slice_get u.fields f ≡ Some g → g.class ≡ c → list_any (λ h. h == f) d.fields ≡ true
own_listed u well c d there f g is own =
    let within : f < length u.fields = slice_get_within u.fields f g is in
    let inside : f < length (range_with_len 0 (length u.fields)) = omega (arith, within, length-range_with_len 0 (length u.fields)) in
    let all : list_any (λ h. h == f) (range_with_len 0 (length u.fields)) ≡ true =
    list_any_at (λ h. h == f) (range_with_len 0 (length u.fields)) f 0 inside (eq-eqb (get_or (range_with_len 0 (length u.fields)) f 0) f (get_or-range_with_len 0 (length u.fields) f 0 within ∙ omega arith))
    in
    let passes : of_class u c f ≡ true = ap (λ o. option_map_or (λ g. g.class == c) o false) is ∙ eq-eqb g.class c own in
    ap (list_any (λ h. h == f)) (well.classes c d there).lists_fields ∙ any_filtered (of_class u c) f passes (range_with_len 0 (length u.fields)) all

-- the place of a field in its class, and that the class lists it there
record IsPlaced (u : Parts) (c f : ℕ) (d : ClassDef) : Type 0 where
  place : ℕ
  placed : place_of u.classes c f ≡ Some place
  listed : slice_get d.fields place ≡ Some f

own_placed : (u : Parts) → IsWell u → (c : ℕ) (d : ClassDef) → slice_get u.classes c ≡ Some d → (f : ℕ) (g : FieldDef) → slice_get u.fields f ≡ Some g → g.class ≡ c → IsPlaced u c f d
own_placed u well c d there f g is own =
    let found = place_found (λ h. h == f) d.fields (own_listed u well c d there f g is own) in
    let at = position-Some (λ h. h == f) d.fields found.0 0 found.1 in
    record {
      place = found.0;
      placed = ap (option_and_then (λ d. position (λ h. h == f) d.fields)) there ∙ found.1;
      listed = slice_get-get_or d.fields found.0 0 at.0 ∙ ap Some (eqb-true (get_or d.fields found.0 0) f at.1);
    }

-- a class declares the fields that name it, and no others
pub declares_own : (u : Parts) → IsWell u → (f : ℕ) (g : FieldDef) → slice_get u.fields f ≡ Some g → (c : ℕ) → declares u.classes c f ≡ (g.class == c)
declares_own u well f g is c = go (slice_get u.classes c) refl
  where
    among : (d : ClassDef) → slice_get u.classes c ≡ Some d → (i : Option ℕ) → position (λ h. h == f) d.fields ≡ i → is_some i ≡ (g.class == c)
    among d there (Some i) found =
        let at = position-Some (λ h. h == f) d.fields i 0 found in
        let listed : slice_get d.fields i ≡ Some f = slice_get-get_or d.fields i 0 at.0 ∙ ap Some (eqb-true (get_or d.fields i 0) f at.1) in
        sym (ap (λ o. option_map_or (λ g. g.class == c) o false) (sym is) ∙ listed_own u well c d there i f listed)
    among d there None found = elim (cases_eq g.class c) [
      | inl own ↦
          let placed = place_found (λ h. h == f) d.fields (own_listed u well c d there f g is own) in
          absurd (none_some (sym found ∙ placed.1))
      | inr other ↦ sym (ne_eqb g.class c other)
    ]

    go : (d : Option ClassDef) → slice_get u.classes c ≡ d → is_some (option_and_then (λ d. position (λ h. h == f) d.fields) d) ≡ (g.class == c)
    go (Some d) there = among d there (position (λ h. h == f) d.fields) refl
    go None there = elim (cases_eq g.class c) [
      | inl own ↦
          let within : g.class < length u.classes = (well.fields f g is).in_class in
          absurd (none_some (sym there ∙ ap (slice_get u.classes) (sym own) ∙ slice_get-get_or u.classes g.class (record { name = []; fields = []; methods = []; invariants = [] }) within))
      | inr other ↦ sym (ne_eqb g.class c other)
    ]

-- ## what a field gives

-- at an object of its class: the value of its cell, which fits where the object's cells fit its fields
pub field_at : (u : Parts) → IsWell u → (fits : ℕ → Value → Bool) (heap : Heap) (o : ℕ) (x : Object) (d : ClassDef) (f : ℕ) (g : FieldDef) → slice_get heap o ≡ Some x → slice_get u.classes x.class ≡ Some d → pointwise fits d.fields x.cells ≡ true → slice_get u.fields f ≡ Some g → g.class ≡ x.class → (v : Value) × (field u.classes heap f (Obj o) ≡ Is v) × (fits f v ≡ true)
field_at u well fits heap o x d f g there class all is own =
    let placed = own_placed u well x.class d class f g is own in
    let cell_is = beside fits d.fields x.cells placed.place f all placed.listed in
    (cell_is.0, ap (cell_of u.classes f) there ∙ ap value_in (ap (option_and_then (λ i. slice_get x.cells i)) placed.placed ∙ cell_is.1), cell_is.2)

-- the evaluation gives a value of the kind
abbrev pub gives_kind : ℕ → Heap → Kind → Seen → Bool
gives_kind w heap k (Is v) = has_kind w heap k v
gives_kind w heap k _ = false

-- a field of an object gives Bad exactly where the heap lacks the object, a value of its kind exactly where the
-- object is of its class, and else Out
pub record IsGiven (w : ℕ) (heap : Heap) (g : FieldDef) (o : ℕ) (s : Seen) : Type 0 where
  pub bad : is_bad s ≡ is_none (slice_get heap o)
  pub value : gives_kind w heap g.kind s ≡ is_of heap g.class o
  pub out : is_out s ≡ not (is_none (slice_get heap o) || is_of heap g.class o)

pub field_given : (u : Parts) → IsWell u → (w : ℕ) (heap : Heap) → list_all (is_whole u w heap) heap ≡ true → (f : ℕ) (g : FieldDef) → slice_get u.fields f ≡ Some g → (o : ℕ) → IsGiven w heap g o (field u.classes heap f (Obj o))
field_given u well w heap whole f g is o = go (slice_get heap o) refl
  where
    fitting : (v : Value) → has_field_kind u.fields w heap f v ≡ true → has_kind w heap g.kind v ≡ true
    fitting v fits = ap (λ o. option_map_or (λ d. has_kind w heap d.kind v) o false) (sym is) ∙ fits

    own : (x : Object) → slice_get heap o ≡ Some x → g.class ≡ x.class → (d : Option ClassDef) → slice_get u.classes x.class ≡ d → option_map_or (λ d. pointwise (has_field_kind u.fields w heap) d.fields x.cells) d false ≡ true → IsGiven w heap g o (field u.classes heap f (Obj o))
    own x there same None class cells = absurd (false≢true cells)
    own x there same (Some d) class cells =
        let given = field_at u well (has_field_kind u.fields w heap) heap o x d f g there class cells is same in
        let here : is_of heap g.class o ≡ true = ap (λ y. option_map_or (λ x. x.class == g.class) y false) there ∙ eq-eqb x.class g.class (sym same) in
        record {
          bad = ap is_bad given.1 ∙ sym (ap is_none there);
          value = ap (gives_kind w heap g.kind) given.1 ∙ fitting given.0 given.2 ∙ sym here;
          out = ap is_out given.1 ∙ sym (ap not (ap (λ y. is_none y || is_of heap g.class o) there ∙ here));
        }

    go : (x : Option Object) → slice_get heap o ≡ x → IsGiven w heap g o (field u.classes heap f (Obj o))
    go None there = record {
      bad = ap (λ y. is_bad (cell_of u.classes f y)) there ∙ sym (ap is_none there);
      value = ap (λ y. gives_kind w heap g.kind (cell_of u.classes f y)) there ∙ sym (ap (λ y. option_map_or (λ x. x.class == g.class) y false) there);
      out = ap (λ y. is_out (cell_of u.classes f y)) there ∙ sym (ap (λ y. not (is_none y || option_map_or (λ x. x.class == g.class) y false)) there);
    }
    go (Some x) there = elim (cases_eq g.class x.class) [
      | inl same ↦ own x there same (slice_get u.classes x.class) refl (all_at (is_whole u w heap) heap o x whole there)
      | inr apart ↦
          let none : declares u.classes x.class f ≡ false = declares_own u well f g is x.class ∙ ne_eqb g.class x.class apart in
          let missing : place_of u.classes x.class f ≡ None = nowhere (place_of u.classes x.class f) none in
          let gives : field u.classes heap f (Obj o) ≡ Out = ap (cell_of u.classes f) there ∙ ap (λ i. value_in (option_and_then (λ i. slice_get x.cells i) i)) missing in
          let other : is_of heap g.class o ≡ false = ap (λ y. option_map_or (λ x. x.class == g.class) y false) there ∙ ne_eqb x.class g.class (λ same. apart (sym same)) in
          record {
            bad = ap is_bad gives ∙ sym (ap is_none there);
            value = ap (gives_kind w heap g.kind) gives ∙ sym other;
            out = ap is_out gives ∙ sym (ap not (ap (λ y. is_none y || is_of heap g.class o) there ∙ other));
          }
    ]
      where
        nowhere : (i : Option ℕ) → is_some i ≡ false → i ≡ None
        nowhere None is = refl
        nowhere (Some i) is = absurd (false≢true (sym is))

-- ## a new object

-- what a new object has done: it stands behind all others
pub record IsGrown (p : Posed) (heap : Heap) (class : ℕ) (after : Heap) : Type 0 where
  pub object : Object
  pub made : blank p.unit class ≡ Some object
  pub is : after ≡ heap ++ object ∷ []
  pub room : length heap < p.scope.objects

pub grown_is : (p : Posed) (heap : Heap) (class : ℕ) (after : Heap) → grown p heap class ≡ Some after → IsGrown p heap class after
grown_is p heap class after = room (has_room p heap class) refl
  where
    made : (x : Option Object) → blank p.unit class ≡ x → length heap < p.scope.objects → option_map (λ x. heap ++ x ∷ []) x ≡ Some after → IsGrown p heap class after
    made None none small is = absurd (none_some is)
    made (Some x) some small is = record { object = x; made = some; is = cc; room = small }

    room : (b : Bool) → has_room p heap class ≡ b → (if b then option_map (λ x. heap ++ x ∷ []) (blank p.unit class) else None) ≡ Some after → IsGrown p heap class after
    room false has is = absurd (none_some is)
    room true has is = made (blank p.unit class) refl (below (length heap) p.scope.objects has) is

pub grown_length : {p : Posed} {heap : Heap} {class : ℕ} {after : Heap} → IsGrown p heap class after → length after ≡ length heap + 1
grown_length {p} {heap} w = ap length w.is ∙ length-append heap (w.object ∷ [])

-- the new object has the next number, and all others keep theirs
grown_there : {p : Posed} {heap : Heap} {class : ℕ} {after : Heap} → (w : IsGrown p heap class after) → slice_get after (length heap) ≡ Some w.object
grown_there {p} {heap} w = ap (λ h. slice_get h (length heap)) w.is ∙ append_last heap w.object

grown_before : {p : Posed} {heap : Heap} {class : ℕ} {after : Heap} → (w : IsGrown p heap class after) → (o : ℕ) → (o ≡ length heap → ⊥) → slice_get after o ≡ slice_get heap o
grown_before {p} {heap} {class} {after} w o apart = go (nat_lt o (length heap)) refl
  where
    go : (b : Bool) → nat_lt o (length heap) ≡ b → slice_get after o ≡ slice_get heap o
    go true within = ap (λ h. slice_get h o) w.is ∙ slice_get-append_left heap (w.object ∷ []) o (below o (length heap) within)
    go false beyond =
        let far : length heap ≤ o = grind (arith, beyond) in
        slice_get_past after o (omega (arith, far, apart, grown_length w)) ∙ sym (slice_get_past heap o far)

-- the object that `new` makes, by its class
record IsBlank (u : Parts) (class : ℕ) (x : Object) : Type 0 where
  declared : ClassDef
  there : slice_get u.classes class ≡ Some declared
  is : x ≡ record { class = class; cells = map (first_value u.fields) declared.fields }

blank_is : (u : Parts) (class : ℕ) (x : Object) → blank u class ≡ Some x → IsBlank u class x
blank_is u class x = go (slice_get u.classes class) refl
  where
    go : (d : Option ClassDef) → slice_get u.classes class ≡ d → option_map (λ d. record { class = class; cells = map (first_value u.fields) d.fields }) d ≡ Some x → IsBlank u class x
    go None there is = absurd (none_some is)
    go (Some d) there is = record { declared = d; there = there; is = cc }

-- its class
pub grown_class : {p : Posed} {heap : Heap} {class : ℕ} {after : Heap} → IsGrown p heap class after → (o : ℕ) → class_at after o ≡ (if o == length heap then Some class else class_at heap o)
grown_class {p} {heap} {class} {after} w o =
    elim (cases_eq o (length heap)) [
      | inl last ↦
          let here : (o == length heap) ≡ true = eq-eqb o (length heap) last in
          let new = blank_is p.unit class w.object w.made in
          ap (class_at after) last ∙ ap (option_map (λ x. x.class)) (grown_there w) ∙ ap (λ x. Some x.class) new.is ∙ sym (rw here refl)
      | inr apart ↦
          let other : (o == length heap) ≡ false = ne_eqb o (length heap) apart in
          ap (option_map (λ x. x.class)) (grown_before w o apart) ∙ sym (rw other refl)
    ]

-- its fields: each that its class declares begins with the first value of its kind
new_field : (u : Parts) (class : ℕ) (x : Object) → IsBlank u class x → (f : ℕ) → value_in (cell u.classes f x) ≡ (if declares u.classes class f then Is (first_value u.fields f) else Out)
new_field u class x b f = ap (λ y. value_in (cell u.classes f y)) b.is ∙ go (place_of u.classes class f) refl
  where
    go : (i : Option ℕ) → place_of u.classes class f ≡ i → value_in (option_and_then (λ i. slice_get (map (first_value u.fields) b.declared.fields) i) i) ≡ (if is_some i then Is (first_value u.fields f) else Out)
    go None placed = refl
    go (Some i) placed =
        let found = position-Some (λ g. g == f) b.declared.fields i 0 (sym (ap (option_and_then (λ d. position (λ g. g == f) d.fields)) b.there) ∙ placed) in
        let listed : slice_get b.declared.fields i ≡ Some f = slice_get-get_or b.declared.fields i 0 found.0 ∙ ap Some (eqb-true (get_or b.declared.fields i 0) f found.1) in
        ap value_in (slice_get-map (first_value u.fields) b.declared.fields i ∙ ap (option_map (first_value u.fields)) listed)

-- a field gives what it gave, and at the new object the first value, where its class declares the field
pub grown_field : {p : Posed} {heap : Heap} {class : ℕ} {after : Heap} → IsGrown p heap class after → (f o : ℕ) → field p.unit.classes after f (Obj o) ≡ (if o == length heap then (if declares p.unit.classes class f then Is (first_value p.unit.fields f) else Out) else field p.unit.classes heap f (Obj o))
grown_field {p} {heap} {class} {after} w f o =
    elim (cases_eq o (length heap)) [
      | inl last ↦
          let here : (o == length heap) ≡ true = eq-eqb o (length heap) last in
          let new = blank_is p.unit class w.object w.made in
          ap (λ q. field p.unit.classes after f (Obj q)) last ∙ ap (cell_of p.unit.classes f) (grown_there w) ∙ new_field p.unit class w.object new f ∙ sym (rw here refl)
      | inr apart ↦
          let other : (o == length heap) ≡ false = ne_eqb o (length heap) apart in
          ap (cell_of p.unit.classes f) (grown_before w o apart) ∙ sym (rw other refl)
    ]

-- the first value of a kind is one of the kind, at any width and in any heap
zero_fits : (w : ℕ) (heap : Heap) (k : Kind) → has_kind w heap k (zero_of k) ≡ true
zero_fits w heap kind.Int = positive (w - 1)
  where
    positive : (n : ℕ) → nat_lt 0 (2 ^ n) ≡ true
    positive n = go (2 ^ n) (pow_pos n)
      where
        go : (m : ℕ) → 0 < m → nat_lt 0 m ≡ true
        go m some = grind (arith, some)
zero_fits w heap kind.Flag = refl
zero_fits w heap (kind.Ref c) = refl

-- the heap stays whole
pub grown_whole : {p : Posed} {heap : Heap} {class : ℕ} {after : Heap} → IsWell p.unit → (w : ℕ) → IsGrown p heap class after → list_all (is_whole p.unit w heap) heap ≡ true → list_all (is_whole p.unit w after) after ≡ true
grown_whole {p} {heap} {class} {after} well w g whole = all_from (is_whole p.unit w after) after each
  where
    keeps : Keeps heap after
    keeps c o is =
        let within : o < length heap = there (slice_get heap o) refl is in
        ap (λ y. option_map_or (λ x. x.class == c) y false) (grown_before g o (λ same. absurd (omega (arith, within, same)))) ∙ is
      where
        there : (x : Option Object) → slice_get heap o ≡ x → option_map_or (λ x. x.class == c) x false ≡ true → o < length heap
        there None at is = absurd (false≢true is)
        there (Some x) at is = slice_get_within heap o x at

    new : is_whole p.unit w after g.object ≡ true
    new =
        let b = blank_is p.unit class g.object g.made in
        let cells : pointwise (has_field_kind p.unit.fields w after) b.declared.fields (map (first_value p.unit.fields) b.declared.fields) ≡ true =
        beside_map (has_field_kind p.unit.fields w after) (first_value p.unit.fields) b.declared.fields (λ i f at. first_fits (slice_get p.unit.fields f) (listed_own p.unit well class b.declared b.there i f at))
        in
        ap (is_whole p.unit w after) b.is ∙ ap (λ d. option_map_or (λ d. pointwise (has_field_kind p.unit.fields w after) d.fields (map (first_value p.unit.fields) b.declared.fields)) d false) b.there ∙ cells
      where
        first_fits : (d : Option FieldDef) → option_map_or (λ g. g.class == class) d false ≡ true → option_map_or (λ e. has_kind w after e.kind (option_map_or (λ e. zero_of e.kind) d Null)) d false ≡ true
        first_fits None is = absurd (false≢true is)
        first_fits (Some d) is = zero_fits w after d.kind

    each : (o : ℕ) (x : Object) → slice_get after o ≡ Some x → is_whole p.unit w after x ≡ true
    each o x there = elim (cases_eq o (length heap)) [
      | inl last ↦
          let same : g.object ≡ x = some_same (sym (grown_there g) ∙ ap (slice_get after) (sym last) ∙ there) in
          subst (λ y. is_whole p.unit w after y ≡ true) same new
      | inr apart ↦ whole_kept p.unit w heap after keeps x (all_at (is_whole p.unit w heap) heap o x whole (sym (grown_before g o apart) ∙ there))
    ]

-- The reading of a state is one of the problem.
use Rattle.std.proofs.Common.{◌≡◌, ℕ, ◌<◌, Bool, true, false, not, ◌&&◌, ◌||◌, List, length, Option, Some, None, refl, sym, ap, ◌∙◌, arith, get_or}
use Rattle.std.specs.Prelude.{◌==◌, nat_lt, ℤ, pos, if◌then◌else◌, slice_get, filter, position, option_and_then, option_map}
use Rattle.std.specs.Ordering.{int_eq}
use Rattle.std.specs.List.{range_with_len}
use Rattle.std.specs.Option.{option_map_or}
use Rattle.std.proofs.lemmas.Bool.{lt-ltb, ltb-true, false≢true, and_parts, and_from, or_left, or_right, eqb-true}
use Rattle.std.proofs.lemmas.Option.{slice_get_within, slice_get-get_or}
use Rattle.std.proofs.lemmas.List.Quantifiers.{position-Some}
use Rattle.taco_unit.specs.declared.kind.Kind.{Kind}
use Rattle.taco_unit.specs.declared.kind.Kind.TheVariants as kind
use Rattle.taco_unit.specs.declared.unit.ClassDef.{ClassDef}
use Rattle.taco_unit.specs.declared.unit.FieldDef.{FieldDef}
use Rattle.taco_unit.specs.Parts.{Parts}
use Rattle.taco_unit.specs.Well.{IsWell}
use Rattle.heap_core.specs.declared.value.Value.{Value}
use Rattle.heap_core.specs.declared.value.Value.TheVariants.{Null, Obj, Num, Flag}
use Rattle.heap_core.specs.declared.value.Object.{Object}
use Rattle.heap_core.specs.declared.value.Seen.{Seen}
use Rattle.heap_core.specs.declared.value.Seen.TheVariants.{Is, Bad, Out}
use Rattle.heap_core.specs.Posed.{Posed, InRange}
use Rattle.heap_core.specs.Outcomes.{in_bits, gives, is_true, flag, value_in}
use Rattle.heap_core.specs.Heap.{Heap, is_of, field, cell_of}
use Rattle.heap_core.specs.Start.{has_kind, is_whole}
use Rattle.heap_core.proofs.Lists.{all_at, all_filtered}
use Rattle.heap_core.proofs.GivenFields.{field_given, gives_kind}
use Rattle.rel_core.specs.declared.relation.RelVar.{RelVar}
use Rattle.rel_core.specs.declared.relation.What.{What}
use Rattle.rel_core.specs.declared.relation.What.TheVariants as what
use Rattle.rel_core.specs.Reading.{is_reference}
use Rattle.rel_core.specs.Uses.{Kinds, Use, AsSet, AsNumber, AsFlag, AsClass, same_use, use_of_kind, use_of, has_use, is_slot, has_place, can_have, is_class_number, IsOf}
use Rattle.rel_core.specs.Shown.{State}
use Rattle.rel_core.specs.States.{IsState, seen_at, number_given, reading_of_state}
use Rattle.rel_core.proofs.StatesShown.{object_below, kind_of_given}

-- ## what suits a place of a relation

-- a relation can have at this place what an evaluation gives; 0 and false are nothing
abbrev suits : Posed → Kinds → RelVar → ℕ → Seen → Bool
suits p kinds r o (Is Null) = has_place p kinds AsSet r o
suits p kinds r o (Is (Obj q)) = has_place p kinds AsSet r o
suits p kinds r o (Is (Num z)) = can_have p kinds r o z
suits p kinds r o (Is (Flag true)) = has_place p kinds AsFlag r o
suits p kinds r o (Is (Flag false)) = true
suits p kinds r o Bad = true
suits p kinds r o Out = true

same_self : (u : Use) → same_use u u ≡ true
same_self AsSet = refl
same_self AsNumber = refl
same_self AsFlag = refl
same_self AsClass = refl

module _ (p : Posed) (kinds : Kinds) (r : RelVar) (o : ℕ) where
  placed : (u : Use) → use_of p kinds r.what ≡ Some u → nat_lt o p.scope.objects ≡ true → (not (is_slot r.what) || o == 0) ≡ true → has_place p kinds u r o ≡ true
  placed u used below slot =
      and_from (has_use p kinds u r.what && nat_lt o p.scope.objects) (not (is_slot r.what) || o == 0)
      (and_from (has_use p kinds u r.what) (nat_lt o p.scope.objects) (ap (λ w. option_map_or (same_use u) w false) used ∙ same_self u) below) slot

  as_number : (z : ℤ) → has_place p kinds AsNumber r o ≡ true → in_bits p.scope.ints z ≡ true → can_have p kinds r o z ≡ true
  as_number z place bits =
      or_left (int_eq z (pos 0) || (has_place p kinds AsNumber r o && in_bits p.scope.ints z)) (has_place p kinds AsClass r o && is_class_number p z)
      (or_right (int_eq z (pos 0)) (has_place p kinds AsNumber r o && in_bits p.scope.ints z) (and_from (has_place p kinds AsNumber r o) (in_bits p.scope.ints z) place bits))

  as_class : (z : ℤ) → has_place p kinds AsClass r o ≡ true → is_class_number p z ≡ true → can_have p kinds r o z ≡ true
  as_class z place there =
      or_right (int_eq z (pos 0) || (has_place p kinds AsNumber r o && in_bits p.scope.ints z)) (has_place p kinds AsClass r o && is_class_number p z)
      (and_from (has_place p kinds AsClass r o) (is_class_number p z) place there)

  -- a value of the kind of a relation
  of_kind : (heap : Heap) (k : Kind) (v : Value) → use_of p kinds r.what ≡ Some (use_of_kind k) → nat_lt o p.scope.objects ≡ true → (not (is_slot r.what) || o == 0) ≡ true → has_kind p.scope.ints heap k v ≡ true
      → suits p kinds r o (Is v) ≡ true
  of_kind heap kind.Int (Num z) used below slot has = as_number z (placed AsNumber used below slot) has
  of_kind heap kind.Int Null used below slot has = absurd (false≢true has)
  of_kind heap kind.Int (Obj q) used below slot has = absurd (false≢true has)
  of_kind heap kind.Int (Flag b) used below slot has = absurd (false≢true has)
  of_kind heap kind.Flag (Flag true) used below slot has = placed AsFlag used below slot
  of_kind heap kind.Flag (Flag false) used below slot has = refl
  of_kind heap kind.Flag Null used below slot has = absurd (false≢true has)
  of_kind heap kind.Flag (Obj q) used below slot has = absurd (false≢true has)
  of_kind heap kind.Flag (Num z) used below slot has = absurd (false≢true has)
  of_kind heap (kind.Ref c) Null used below slot has = placed AsSet used below slot
  of_kind heap (kind.Ref c) (Obj q) used below slot has = placed AsSet used below slot
  of_kind heap (kind.Ref c) (Num z) used below slot has = absurd (false≢true has)
  of_kind heap (kind.Ref c) (Flag b) used below slot has = absurd (false≢true has)

  -- ## what a reading has of it

  refs_suit : (e : Seen) (v : Value) → suits p kinds r o e ≡ true → is_reference p.scope.objects v ≡ true → gives v e ≡ true → has_place p kinds AsSet r o ≡ true
  refs_suit (Is Null) v suit reference gives = suit
  refs_suit (Is (Obj q)) v suit reference gives = suit
  refs_suit (Is (Num z)) Null suit reference gives = absurd (false≢true gives)
  refs_suit (Is (Num z)) (Obj q) suit reference gives = absurd (false≢true gives)
  refs_suit (Is (Num z)) (Num x) suit reference gives = absurd (false≢true reference)
  refs_suit (Is (Num z)) (Flag b) suit reference gives = absurd (false≢true reference)
  refs_suit (Is (Flag b)) Null suit reference gives = absurd (false≢true gives)
  refs_suit (Is (Flag b)) (Obj q) suit reference gives = absurd (false≢true gives)
  refs_suit (Is (Flag b)) (Num x) suit reference gives = absurd (false≢true reference)
  refs_suit (Is (Flag b)) (Flag c) suit reference gives = absurd (false≢true reference)
  refs_suit Bad v suit reference gives = absurd (false≢true gives)
  refs_suit Out v suit reference gives = absurd (false≢true gives)

  number_suits : (e : Seen) → suits p kinds r o e ≡ true → can_have p kinds r o (number_given e) ≡ true
  number_suits (Is (Num z)) suit = suit
  number_suits (Is Null) suit = refl
  number_suits (Is (Obj q)) suit = refl
  number_suits (Is (Flag b)) suit = refl
  number_suits Bad suit = refl
  number_suits Out suit = refl

  number_at_index : (e : Seen) (b : Bool) → suits p kinds r o e ≡ true → can_have p kinds r o (if b then number_given e else pos 0) ≡ true
  number_at_index e true suit = number_suits e suit
  number_at_index e false suit = refl

  flag_suits : (e : Seen) → suits p kinds r o e ≡ true → is_true e ≡ true → has_place p kinds AsFlag r o ≡ true
  flag_suits (Is (Flag true)) suit is = suit
  flag_suits (Is (Flag false)) suit is = absurd (false≢true is)
  flag_suits (Is (Num z)) suit is = absurd (false≢true is)
  flag_suits (Is Null) suit is = absurd (false≢true is)
  flag_suits (Is (Obj q)) suit is = absurd (false≢true is)
  flag_suits Bad suit is = absurd (false≢true is)
  flag_suits Out suit is = absurd (false≢true is)

-- ## what a state has

-- the field is one of this class
abbrev is_own : Parts → ℕ → ℕ → Bool
is_own u c f = option_map_or (λ d. d.class == c) (slice_get u.fields f) false

-- a field that the unit lacks has no place in a class
unlisted : (u : Parts) → IsWell u → (c f : ℕ) → slice_get u.fields f ≡ None → (d : Option ClassDef) → slice_get u.classes c ≡ d → option_and_then (λ d. position (λ g. g == f) d.fields) d ≡ None
unlisted u well c f lacks None there = refl
unlisted u well c f lacks (Some d) there = among (position (λ g. g == f) d.fields) refl
  where
    among : (i : Option ℕ) → position (λ g. g == f) d.fields ≡ i → i ≡ None
    among None found = refl
    among (Some i) found =
        let at = position-Some (λ g. g == f) d.fields i 0 found in
        let listed : slice_get d.fields i ≡ Some f = slice_get-get_or d.fields i 0 at.0 ∙ ap Some (eqb-true (get_or d.fields i 0) f at.1) in
        let all : List ℕ = range_with_len 0 (length u.fields) in
        let passes : is_own u c f ≡ true =
        all_at (is_own u c) (filter (is_own u c) all) i f (all_filtered (is_own u c) all) (ap (λ fs. slice_get fs i) (sym (well.classes c d there).lists_fields) ∙ listed)
        in
        absurd (false≢true (sym (ap (λ x. option_map_or (λ d. d.class == c) x false) lacks) ∙ passes))

module _ (p : Posed) (kinds : Kinds) (s : State) (well : IsWell p.unit) (range : InRange p) (is : IsState p kinds s) where
  below : (o : ℕ) → o < length s.heap → nat_lt o p.scope.objects ≡ true
  below o within = lt-ltb o p.scope.objects (let few = is.few_objects in omega arith)

  live_suits : (i o : ℕ) (b : Bool) → nat_lt o (length s.heap) ≡ b → suits p kinds (record { what = what.Live; index = i }) o (flag b) ≡ true
  live_suits i o true within = placed p kinds (record { what = what.Live; index = i }) o AsFlag refl (below o (ltb-true o (length s.heap) within)) refl
  live_suits i o false within = refl

  class_there : (x : Object) → (d : Option ClassDef) → slice_get p.unit.classes x.class ≡ d → is_whole p.unit p.scope.ints s.heap x ≡ true → nat_lt x.class (length p.unit.classes) ≡ true
  class_there x (Some d) there whole = lt-ltb x.class (length p.unit.classes) (slice_get_within p.unit.classes x.class d there)
  class_there x None there whole = absurd (false≢true (sym (whole_none x there) ∙ whole))
    where
      whole_none : (x : Object) → slice_get p.unit.classes x.class ≡ None → is_whole p.unit p.scope.ints s.heap x ≡ false
      whole_none x none = rw none refl

  class_suits : (i o : ℕ) (x : Option Object) → slice_get s.heap o ≡ x → suits p kinds (record { what = what.ClassOf; index = i }) o (option_map_or (λ c. Is (Num (pos c))) (option_map (λ (x : Object). x.class) x) Out) ≡ true
  class_suits i o (Some x) there =
      let r : RelVar = record { what = what.ClassOf; index = i } in
      as_class p kinds r o (pos x.class) (placed p kinds r o AsClass refl (below o (slice_get_within s.heap o x there)) refl)
      (class_there x (slice_get p.unit.classes x.class) refl (all_at (is_whole p.unit p.scope.ints s.heap) s.heap o x is.objects_whole there))
  class_suits i o None there = refl

  field_suits : (i f o : ℕ) (g : FieldDef) → slice_get p.unit.fields f ≡ Some g → (e : Seen) → field p.unit.classes s.heap f (Obj o) ≡ e → suits p kinds (record { what = what.Field f; index = i }) o e ≡ true
  field_suits i f o g there (Is v) gives =
      let given = field_given p.unit well p.scope.ints s.heap is.objects_whole f g there o in
      let has : has_kind p.scope.ints s.heap g.kind v ≡ true = kind_of_given p.scope.ints s.heap g o (field p.unit.classes s.heap f (Obj o)) given v gives in
      let of : is_of s.heap g.class o ≡ true = sym given.value ∙ ap (gives_kind p.scope.ints s.heap g.kind) gives ∙ has in
      of_kind p kinds (record { what = what.Field f; index = i }) o s.heap g.kind v (ap (option_map (λ (d : FieldDef). use_of_kind d.kind)) there) (below o (object_below s.heap g.class o of)) refl has
  field_suits i f o g there Bad gives = refl
  field_suits i f o g there Out gives = refl

  unknown_suits : (i f o : ℕ) → slice_get p.unit.fields f ≡ None → (x : Option Object) → suits p kinds (record { what = what.Field f; index = i }) o (cell_of p.unit.classes f x) ≡ true
  unknown_suits i f o lacks None = refl
  unknown_suits i f o lacks (Some x) = ap (λ c. suits p kinds (record { what = what.Field f; index = i }) o (value_in (option_and_then (λ i. slice_get x.cells i) c))) (unlisted p.unit well x.class f lacks (slice_get p.unit.classes x.class) refl)

  any_field_suits : (i f o : ℕ) (g : Option FieldDef) → slice_get p.unit.fields f ≡ g → suits p kinds (record { what = what.Field f; index = i }) o (field p.unit.classes s.heap f (Obj o)) ≡ true
  any_field_suits i f o (Some g) there = field_suits i f o g there (field p.unit.classes s.heap f (Obj o)) refl
  any_field_suits i f o None there = unknown_suits i f o there (slice_get s.heap o)

  slot_suits : (i x o : ℕ) (k : Option Kind) → kinds x ≡ k → (b : Bool) → (o == 0) ≡ b → suits p kinds (record { what = what.Slot x; index = i }) o (if b then option_map_or (λ k. Is (s.value x)) k Out else Out) ≡ true
  slot_suits i x o (Some k) there true zero =
      of_kind p kinds (record { what = what.Slot x; index = i }) o s.heap k (s.value x) (ap (option_map use_of_kind) there) (lt-ltb o p.scope.objects (let low = range.scope.objects_low in omega (arith, eqb-true o 0 zero))) zero (is.values x k there)
  slot_suits i x o None there true zero = refl
  slot_suits i x o k there false zero = refl

  all_suit : (w : What) (i o : ℕ) → suits p kinds (record { what = w; index = i }) o (seen_at p kinds s w o) ≡ true
  all_suit what.Live i o = live_suits i o (nat_lt o (length s.heap)) refl
  all_suit what.ClassOf i o = class_suits i o (slice_get s.heap o) refl
  all_suit (what.Field f) i o = any_field_suits i f o (slice_get p.unit.fields f) refl
  all_suit (what.Slot x) i o = slot_suits i x o (kinds x) refl (o == 0) refl

  pub state_of_problem : IsOf p kinds (reading_of_state p kinds s)
  state_of_problem = record {
    objects = refl;
    ints = refl;
    refs = λ r o v has.
        let front = and_parts (r.index == 0 && is_reference p.scope.objects v) (gives v (seen_at p kinds s r.what o)) has in
        let reference = (and_parts (r.index == 0) (is_reference p.scope.objects v) front.0).1 in
        and_from (has_place p kinds AsSet r o) (is_reference p.scope.objects v) (refs_suit p kinds r o (seen_at p kinds s r.what o) v (all_suit r.what r.index o) reference front.1) reference;
    numbers = λ r o. number_at_index p kinds r o (seen_at p kinds s r.what o) (r.index == 0) (all_suit r.what r.index o);
    flags = λ r o has. flag_suits p kinds r o (seen_at p kinds s r.what o) (all_suit r.what r.index o) (and_parts (r.index == 0) (is_true (seen_at p kinds s r.what o)) has).1;
  }

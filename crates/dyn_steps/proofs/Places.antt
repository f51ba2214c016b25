-- What relations have at single places.
use Rattle.std.proofs.Common.{◌≡◌, ◌⊎◌, ℕ, ◌<◌, Bool, true, false, not, ◌&&◌, ◌||◌, Some, inl, inr, refl, sym, ◌∙◌, ap, arith}
use Rattle.std.specs.Prelude.{◌==◌, ℤ, pos, nat_lt, if◌then◌else◌}
use Rattle.std.specs.Ordering.{int_eq}
use Rattle.std.specs.List.{list_all}
use Rattle.std.specs.Option.{option_map_or}
use Rattle.std.proofs.lemmas.Bool.{and_parts, and_from, false≢true, false_from_ne_true, lt-ltb, ltb-true}
use Rattle.taco_unit.specs.declared.kind.Kind.{Kind}
use Rattle.taco_unit.specs.declared.kind.Kind.TheVariants as kind
use Rattle.heap_core.specs.declared.value.Value.{Value}
use Rattle.heap_core.specs.declared.value.Value.TheVariants.{Num, Flag}
use Rattle.heap_core.specs.Posed.{Posed}
use Rattle.heap_core.specs.Outcomes.{in_bits, is_null, same_flag}
use Rattle.rel_core.specs.declared.relation.RelVar.{RelVar}
use Rattle.rel_core.specs.Reading.{Reading, references, is_reference}
use Rattle.rel_core.specs.Meaning.{ValueSet, has_object, same_at, is_changed}
use Rattle.rel_core.specs.Uses.{Kinds, Use, AsSet, AsNumber, AsFlag, AsClass, same_use, use_of_kind, use_of, has_use, is_slot, has_place, is_class_number, IsOf}
use Rattle.rel_core.specs.Shown.{ShowsValue}
use Rattle.dyn_steps.specs.Agreeing.{IsAlike}
use Rattle.dyn_steps.proofs.Readings.{spliced}
use Rattle.dyn_steps.proofs.Numbers.{all_below, all_numbers, reference_has, references_have}
use Rattle.dyn_steps.proofs.Saying.{int_same, same_int, flag_same, same_flags, refs_within}

-- what one relation has under one reading at a place, another has under another at another place
pub record IsAlikeAt (m : Reading) (r : RelVar) (o : ℕ) (u : Reading) (q : RelVar) (i : ℕ) : Type 0 where
  pub refs : (v : Value) → u.refs q i v ≡ m.refs r o v
  pub number : u.number q i ≡ m.number r o
  pub flag : u.flag q i ≡ m.flag r o

pub place_back : {m : Reading} {r : RelVar} {o : ℕ} {u : Reading} {q : RelVar} {i : ℕ} → IsAlikeAt m r o u q i → IsAlikeAt u q i m r o
place_back a = record { refs = λ v. sym (a.refs v); number = sym a.number; flag = sym a.flag }

pub place_on : {m : Reading} {r : RelVar} {o : ℕ} {u : Reading} {q : RelVar} {i : ℕ} {n : Reading} {s : RelVar} {j : ℕ} → IsAlikeAt m r o u q i → IsAlikeAt u q i n s j → IsAlikeAt m r o n s j
place_on a b = record { refs = λ v. b.refs v ∙ a.refs v; number = b.number ∙ a.number; flag = b.flag ∙ a.flag }

pub place_at : {m : Reading} {r : RelVar} {u : Reading} {q : RelVar} → IsAlike m r u q → (o : ℕ) → IsAlikeAt m r o u q o
place_at a o = record { refs = a.refs o; number = a.number o; flag = a.flag o }

pub all_places : (m : Reading) (r : RelVar) (u : Reading) (q : RelVar) → ((o : ℕ) → IsAlikeAt m r o u q o) → IsAlike m r u q
all_places m r u q each = record { refs = λ o. (each o).refs; number = λ o. (each o).number; flag = λ o. (each o).flag }

pub place_moves : (m : Reading) (r : RelVar) (o : ℕ) (u : Reading) (q : RelVar) (i : ℕ) (k : Kind) (v : Value) → u.objects ≡ m.objects → IsAlikeAt m r o u q i → ShowsValue m k r o v
    → ShowsValue u k q i v
place_moves m r o u q i kind.Int v same alike shown = shown ∙ sym (ap Num alike.number)
place_moves m r o u q i kind.Flag v same alike shown = shown ∙ sym (ap Flag alike.flag)
place_moves m r o u q i (kind.Ref c) v same alike shown = (ap (λ k. is_reference k v) same ∙ shown.0, λ w. alike.refs w ∙ shown.1 w)

-- a place of a reading that was put together
pub spliced_first : (test : RelVar → ℕ → Bool) (c m : Reading) (r : RelVar) (o : ℕ) → test r o ≡ true → IsAlikeAt c r o (spliced test c m) r o
spliced_first test c m r o is = record {
  refs = λ v. ap (λ b. if b then c.refs r o v else m.refs r o v) is;
  number = ap (λ b. if b then c.number r o else m.number r o) is;
  flag = ap (λ b. if b then c.flag r o else m.flag r o) is;
}

pub spliced_second : (test : RelVar → ℕ → Bool) (c m : Reading) (r : RelVar) (o : ℕ) → test r o ≡ false → IsAlikeAt m r o (spliced test c m) r o
spliced_second test c m r o is = record {
  refs = λ v. ap (λ b. if b then c.refs r o v else m.refs r o v) is;
  number = ap (λ b. if b then c.number r o else m.number r o) is;
  flag = ap (λ b. if b then c.flag r o else m.flag r o) is;
}

or_cases : (x y : Bool) → (x || y) ≡ true → (x ≡ true) ⊎ (y ≡ true)
or_cases true y is = inl refl
or_cases false y is = inr is

module _ (p : Posed) (kinds : Kinds) (m : Reading) (of : IsOf p kinds m) where
  -- ## where a relation has nothing

  pub no_refs : (r : RelVar) (o : ℕ) (v : Value) → has_place p kinds AsSet r o ≡ false → m.refs r o v ≡ false
  no_refs r o v not_here = false_from_ne_true (m.refs r o v) (λ has. false≢true (sym not_here ∙ (and_parts (has_place p kinds AsSet r o) (is_reference p.scope.objects v) (of.refs r o v has)).0))

  pub no_flag : (r : RelVar) (o : ℕ) → has_place p kinds AsFlag r o ≡ false → m.flag r o ≡ false
  no_flag r o not_here = false_from_ne_true (m.flag r o) (λ has. false≢true (sym not_here ∙ of.flags r o has))

  pub no_number : (r : RelVar) (o : ℕ) → has_place p kinds AsNumber r o ≡ false → has_place p kinds AsClass r o ≡ false → m.number r o ≡ pos 0
  no_number r o not_number not_class = elim
      (or_cases (int_eq (m.number r o) (pos 0) || (has_place p kinds AsNumber r o && in_bits p.scope.ints (m.number r o))) (has_place p kinds AsClass r o && is_class_number p (m.number r o))
      (of.numbers r o)) [
        | inl first ↦ elim (or_cases (int_eq (m.number r o) (pos 0)) (has_place p kinds AsNumber r o && in_bits p.scope.ints (m.number r o)) first) [
          | inl zero ↦ int_same (m.number r o) (pos 0) zero
          | inr number ↦ absurd (false≢true (sym not_number ∙ (and_parts (has_place p kinds AsNumber r o) (in_bits p.scope.ints (m.number r o)) number).0))
        ]
        | inr class ↦ absurd (false≢true (sym not_class ∙ (and_parts (has_place p kinds AsClass r o) (is_class_number p (m.number r o)) class).0))
      ]

  not_below : (u : Use) (r : RelVar) (o : ℕ) → nat_lt o p.scope.objects ≡ false → has_place p kinds u r o ≡ false
  not_below u r o beyond = false_from_ne_true (has_place p kinds u r o) (λ is.
      let front = and_parts (has_use p kinds u r.what && nat_lt o p.scope.objects) (not (is_slot r.what) || o == 0) is in
      false≢true (sym beyond ∙ (and_parts (has_use p kinds u r.what) (nat_lt o p.scope.objects) front.0).1))

  pub not_used : (u used : Use) (r : RelVar) (o : ℕ) → use_of p kinds r.what ≡ Some used → same_use u used ≡ false → has_place p kinds u r o ≡ false
  not_used u used r o is other = false_from_ne_true (has_place p kinds u r o) (λ has.
      let front = and_parts (has_use p kinds u r.what && nat_lt o p.scope.objects) (not (is_slot r.what) || o == 0) has in
      let used_here = (and_parts (has_use p kinds u r.what) (nat_lt o p.scope.objects) front.0).0 in
      false≢true (sym (ap (λ w. option_map_or (same_use u) w false) is ∙ other) ∙ used_here))

  -- two relations have nothing at a place beyond K
  pub beyond_alike : (r q : RelVar) (o i : ℕ) → nat_lt o p.scope.objects ≡ false → nat_lt i p.scope.objects ≡ false → IsAlikeAt m r o m q i
  beyond_alike r q o i first second = record {
    refs = λ v. no_refs q i v (not_below AsSet q i second) ∙ sym (no_refs r o v (not_below AsSet r o first));
    number = no_number q i (not_below AsNumber q i second) (not_below AsClass q i second) ∙ sym (no_number r o (not_below AsNumber r o first) (not_below AsClass r o first));
    flag = no_flag q i (not_below AsFlag q i second) ∙ sym (no_flag r o (not_below AsFlag r o first));
  }

  -- ## `Changed`

  below_objects : (o : ℕ) → o < m.objects → nat_lt o m.objects ≡ true
  below_objects o low = lt-ltb o m.objects low

  pub same_alike : (r q : RelVar) (o i : ℕ) → same_at m r o q i ≡ true → IsAlikeAt m q i m r o
  same_alike r q o i is = record {
    refs = λ v. one v (is_reference m.objects v) refl;
    number = int_same (m.number r o) (m.number q i) front.1;
    flag = flag_same (m.flag r o) (m.flag q i) both.1;
  }
    where
      both : (((list_all (λ v. same_flag (m.refs r o v) (m.refs q i v)) (references m.objects)) && int_eq (m.number r o) (m.number q i)) ≡ true) × (same_flag (m.flag r o) (m.flag q i) ≡ true)
      both = and_parts ((list_all (λ v. same_flag (m.refs r o v) (m.refs q i v)) (references m.objects)) && int_eq (m.number r o) (m.number q i)) (same_flag (m.flag r o) (m.flag q i)) is

      front : ((list_all (λ v. same_flag (m.refs r o v) (m.refs q i v)) (references m.objects)) ≡ true) × (int_eq (m.number r o) (m.number q i) ≡ true)
      front = and_parts (list_all (λ v. same_flag (m.refs r o v) (m.refs q i v)) (references m.objects)) (int_eq (m.number r o) (m.number q i)) both.0

      outside : (s : RelVar) (j : ℕ) (v : Value) → is_reference m.objects v ≡ false → m.refs s j v ≡ false
      outside s j v not_there = false_from_ne_true (m.refs s j v) (λ has. false≢true (sym not_there ∙ refs_within p kinds m of s j v has))

      one : (v : Value) (b : Bool) → is_reference m.objects v ≡ b → m.refs r o v ≡ m.refs q i v
      one v true there = flag_same (m.refs r o v) (m.refs q i v) (reference_has (λ v. same_flag (m.refs r o v) (m.refs q i v)) m.objects v front.0 there)
      one v false there = outside r o v there ∙ sym (outside q i v there)

  pub alike_same : (r q : RelVar) (o i : ℕ) → IsAlikeAt m q i m r o → same_at m r o q i ≡ true
  alike_same r q o i alike =
      and_from (list_all (λ v. same_flag (m.refs r o v) (m.refs q i v)) (references m.objects) && int_eq (m.number r o) (m.number q i)) (same_flag (m.flag r o) (m.flag q i))
      (and_from (list_all (λ v. same_flag (m.refs r o v) (m.refs q i v)) (references m.objects)) (int_eq (m.number r o) (m.number q i))
      (references_have (λ v. same_flag (m.refs r o v) (m.refs q i v)) m.objects (λ v. same_flags (m.refs r o v) (m.refs q i v) (alike.refs v)))
      (same_int (m.number r o) (m.number q i) alike.number))
      (same_flags (m.flag r o) (m.flag q i) alike.flag)

  module _ (new : RelVar) (s : ValueSet) (given old : RelVar) where
    abbrev test : ℕ → Bool
    test o = if has_object s o then same_at m new o given 0 else same_at m new o old o

    chosen_here : (o : ℕ) → has_object s o ≡ true → test o ≡ same_at m new o given 0
    chosen_here o has = ap (λ b. if b then same_at m new o given 0 else same_at m new o old o) has

    chosen_apart : (o : ℕ) → has_object s o ≡ false → test o ≡ same_at m new o old o
    chosen_apart o lacks = ap (λ b. if b then same_at m new o given 0 else same_at m new o old o) lacks

    pub changed_here : is_changed m new s given old ≡ true → (o : ℕ) → o < m.objects → has_object s o ≡ true → IsAlikeAt m given 0 m new o
    changed_here is o low has = same_alike new given o 0 (sym (chosen_here o has) ∙ all_below test 0 m.objects o is (omega arith) (omega arith))

    pub changed_apart : is_changed m new s given old ≡ true → (o : ℕ) → has_object s o ≡ false → IsAlikeAt m old o m new o
    changed_apart is o lacks = at (nat_lt o m.objects) refl
      where
        at : (b : Bool) → nat_lt o m.objects ≡ b → IsAlikeAt m old o m new o
        at true below = let low : o < m.objects = ltb-true o m.objects below in same_alike new old o o (sym (chosen_apart o lacks) ∙ all_below test 0 m.objects o is (omega arith) (omega arith))
        at false below = let beyond : nat_lt o p.scope.objects ≡ false = ap (λ k. nat_lt o k) (sym of.objects) ∙ below in beyond_alike old new o o beyond beyond

    pub changed_from : ((o : ℕ) → o < m.objects → has_object s o ≡ true → IsAlikeAt m given 0 m new o) → ((o : ℕ) → has_object s o ≡ false → IsAlikeAt m old o m new o)
        → is_changed m new s given old ≡ true
    changed_from here apart = all_numbers test 0 m.objects (λ o low. each o (omega arith) (has_object s o) refl)
      where
        each : (o : ℕ) → o < m.objects → (b : Bool) → has_object s o ≡ b → test o ≡ true
        each o low true has = chosen_here o has ∙ alike_same new given o 0 (here o low has)
        each o low false lacks = chosen_apart o lacks ∙ alike_same new old o o (apart o lacks)

  -- one relation is another
  pub changed_alike : (new old : RelVar) → is_changed m new is_null old old ≡ true → IsAlike m old m new
  changed_alike new old is = all_places m old m new (λ o. changed_apart new is_null old old is o refl)

  pub alike_changed : (new old : RelVar) → IsAlike m old m new → is_changed m new is_null old old ≡ true
  alike_changed new old alike = changed_from new is_null old old (λ o low has. absurd (false≢true has)) (λ o lacks. place_at alike o)

-- ## one value at two places

-- places that show one value, of relations that are used by its kind
pub shown_alike :
    (p : Posed) (kinds : Kinds) (m u : Reading) → IsOf p kinds m → IsOf p kinds u
    → (k : Kind) (r : RelVar) (o : ℕ) (q : RelVar) (i : ℕ) (v : Value)
    → use_of p kinds r.what ≡ Some (use_of_kind k)
    → use_of p kinds q.what ≡ Some (use_of_kind k)
    → ShowsValue m k r o v
    → ShowsValue u k q i v
    → IsAlikeAt m r o u q i
shown_alike p kinds m u of also kind.Int r o q i v used other first second = record {
  refs = λ w. no_refs p kinds u also q i w (not_used p kinds u also AsSet AsNumber q i other refl) ∙ sym (no_refs p kinds m of r o w (not_used p kinds m of AsSet AsNumber r o used refl));
  number = nums (sym second ∙ first);
  flag = no_flag p kinds u also q i (not_used p kinds u also AsFlag AsNumber q i other refl) ∙ sym (no_flag p kinds m of r o (not_used p kinds m of AsFlag AsNumber r o used refl));
}
  where
    nums : {x y : ℤ} → Num x ≡ Num y → x ≡ y
    nums is = cc
shown_alike p kinds m u of also kind.Flag r o q i v used other first second = record {
  refs = λ w. no_refs p kinds u also q i w (not_used p kinds u also AsSet AsFlag q i other refl) ∙ sym (no_refs p kinds m of r o w (not_used p kinds m of AsSet AsFlag r o used refl));
  number = no_number p kinds u also q i (not_used p kinds u also AsNumber AsFlag q i other refl) (not_used p kinds u also AsClass AsFlag q i other refl)
      ∙ sym (no_number p kinds m of r o (not_used p kinds m of AsNumber AsFlag r o used refl) (not_used p kinds m of AsClass AsFlag r o used refl));
  flag = flags (sym second ∙ first);
}
  where
    flags : {x y : Bool} → Flag x ≡ Flag y → x ≡ y
    flags is = cc
shown_alike p kinds m u of also (kind.Ref c) r o q i v used other first second = record {
  refs = λ w. second.1 w ∙ sym (first.1 w);
  number = no_number p kinds u also q i (not_used p kinds u also AsNumber AsSet q i other refl) (not_used p kinds u also AsClass AsSet q i other refl)
      ∙ sym (no_number p kinds m of r o (not_used p kinds m of AsNumber AsSet r o used refl) (not_used p kinds m of AsClass AsSet r o used refl));
  flag = no_flag p kinds u also q i (not_used p kinds u also AsFlag AsSet q i other refl) ∙ sym (no_flag p kinds m of r o (not_used p kinds m of AsFlag AsSet r o used refl));
}

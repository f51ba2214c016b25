-- What a reading of a problem can have: references below the number of objects, class numbers of the unit, numbers within
-- the bits; and how many objects are there, where they are a prefix.
use Rattle.std.proofs.Common.{◌≡◌, ℕ, zero, suc, ◌+◌, ◌-◌, ◌^◌, ◌<◌, ◌≤◌, Bool, true, false, not, ◌&&◌, ◌||◌, cond, List, [], ◌∷◌, length, Option, Some, None, inl, inr, refl, sym, ap, ◌∙◌, arith}
use Rattle.std.specs.Prelude.{◌==◌, nat_lt, ℤ, pos, negsuc, count_by, slice_get}
use Rattle.std.specs.Ordering.{int_eq}
use Rattle.std.specs.List.{list_all, range_with_len}
use Rattle.std.specs.Option.{option_map_or}
use Rattle.std.proofs.lemmas.Bool.{lt-ltb, le-ltb, ltb-true, false≢true, cases_eq, cases_lt, cases_Bool, and_parts, or_cases, ne_eqb, false_from_ne_true}
use Rattle.std.proofs.lemmas.Bool.Decides.{Decides-int_eq}
use Rattle.std.proofs.lemmas.Nat.{pow_pos}
use Rattle.std.proofs.lemmas.List.Sums.{sum_by-cons}
use Rattle.taco_unit.specs.declared.kind.Kind.{Kind}
use Rattle.taco_unit.specs.declared.kind.Kind.TheVariants as kind
use Rattle.taco_unit.specs.declared.unit.MethodDef.{MethodDef}
use Rattle.taco_unit.specs.Well.{IsWell}
use Rattle.heap_core.specs.declared.value.Value.{Value}
use Rattle.heap_core.specs.Posed.{Posed, InRange}
use Rattle.heap_core.specs.Outcomes.{in_bits}
use Rattle.heap_core.specs.Start.{method_of}
use Rattle.rel_core.specs.declared.relation.RelVar.{RelVar}
use Rattle.rel_core.specs.declared.indices.Indices.{Indices}
use Rattle.rel_core.specs.Reading.{Reading, numbers_below, is_reference}
use Rattle.rel_core.specs.Uses.{Kinds, Use, AsSet, AsNumber, AsFlag, AsClass, same_use, use_of_kind, use_of, has_use, is_slot, has_place, is_class_number, IsOf}
use Rattle.rel_core.specs.Shown.{live_relation, class_relation}
use Rattle.canon_rel.specs.Shape.{is_next}
use Rattle.canon_rel.proofs.OneValue.{HasReferences, all_numbers}

-- ## how many are there

abbrev counts : Bool → ℕ
counts b = cond b 1 0

-- of the numbers from a on, those below n are counted
count_below : (t : ℕ → Bool) (n : ℕ) → ((o : ℕ) → t o ≡ nat_lt o n) → (a k : ℕ) → n ≤ a + k → count_by t (range_with_len a k) ≡ n - a
count_below t n is a zero few = omega arith
count_below t n is a (suc k) few =
    let rest : count_by t (range_with_len (a + 1) k) ≡ n - (a + 1) = count_below t n is (a + 1) k (omega arith) in
    let one = sum_by-cons (λ o. cond (t o) 1 0) a (range_with_len (a + 1) k) in
    elim (cases_lt a n) [
      | inl below ↦ omega (arith, rest, one, ap counts (is a ∙ lt-ltb a n below))
      | inr past ↦ omega (arith, rest, one, ap counts (is a ∙ le-ltb a n past))
    ]

-- a set that holds with each number the one before it, and none from a bound on, holds the numbers below some number
record IsPrefix (t : ℕ → Bool) (bound : ℕ) : Type 0 where
  size : ℕ
  few : size ≤ bound
  told : (o : ℕ) → t o ≡ nat_lt o size

down : (t : ℕ → Bool) → ((o : ℕ) → t (o + 1) ≡ true → t o ≡ true) → (d o : ℕ) → t (o + d) ≡ true → t o ≡ true
down t step zero o holds = ap t (omega arith) ∙ holds
down t step (suc d) o holds = down t step d o (step (o + d) (ap t (omega arith) ∙ holds))

prefix : (t : ℕ → Bool) → ((o : ℕ) → t (o + 1) ≡ true → t o ≡ true) → (bound : ℕ) → ((o : ℕ) → bound ≤ o → t o ≡ false) → IsPrefix t bound
prefix t step zero none = record { size = 0; few = omega arith; told = λ o. none o (omega arith) ∙ sym (le-ltb o 0 (omega arith)) }
prefix t step (suc k) none = elim (cases_Bool (t k)) [
  | inl holds ↦ record {
    size = suc k;
    few = omega arith;
    told = λ o. elim (cases_lt o (suc k)) [
      | inl below ↦ down t step (k - o) o (ap t (omega (arith, below)) ∙ holds) ∙ sym (lt-ltb o (suc k) below)
      | inr past ↦ none o past ∙ sym (le-ltb o (suc k) past)
    ];
  }
  | inr lacks ↦
      let less = prefix t step k (λ o from. elim (cases_eq o k) [
        | inl same ↦ ap t same ∙ lacks
        | inr apart ↦ none o (omega (arith, from, apart))
      ])
      in
      record { size = less.size; few = omega (arith, less.few); told = less.told }
]

-- how many objects a reading has
abbrev pub count : Reading → Indices → ℕ
count m at = count_by (m.flag (live_relation at)) (numbers_below m.objects)

-- ## what a relation can have

module _ (p : Posed) (m : Reading) (at : Indices) (well : IsWell p.unit) (range : InRange p) (kinds : Kinds) (of : IsOf p kinds m) where
  pub refs_references : (r : RelVar) (o : ℕ) → HasReferences m (m.refs r o)
  refs_references r o u holds = ap (λ k. is_reference k u) of.objects ∙ (and_parts (has_place p kinds AsSet r o) (is_reference p.scope.objects u) (of.refs r o u holds)).1

  place_below : (u : Use) (r : RelVar) (o : ℕ) → has_place p kinds u r o ≡ true → o < p.scope.objects
  place_below u r o is =
      let outer = and_parts (has_use p kinds u r.what && nat_lt o p.scope.objects) (not (is_slot r.what) || o == 0) is in
      ltb-true o p.scope.objects (and_parts (has_use p kinds u r.what) (nat_lt o p.scope.objects) outer.0).1

  place_use : (u : Use) (r : RelVar) (o : ℕ) → has_place p kinds u r o ≡ true → has_use p kinds u r.what ≡ true
  place_use u r o is =
      let outer = and_parts (has_use p kinds u r.what && nat_lt o p.scope.objects) (not (is_slot r.what) || o == 0) is in
      (and_parts (has_use p kinds u r.what) (nat_lt o p.scope.objects) outer.0).0

  pub refs_below : (r : RelVar) (o : ℕ) (u : Value) → m.refs r o u ≡ true → o < p.scope.objects
  refs_below r o u holds = place_below AsSet r o (and_parts (has_place p kinds AsSet r o) (is_reference p.scope.objects u) (of.refs r o u holds)).0

  pub method_there : (d : MethodDef) × (method_of p ≡ Some d)
  method_there = go (method_of p) refl
    where
      within : p.method < length p.unit.methods
      within = range.method_there

      go : (d : Option MethodDef) → method_of p ≡ d → (d : MethodDef) × (method_of p ≡ Some d)
      go (Some d) is = (d, is)
      go None is = absurd (none_here p.unit.methods p.method within is)
        where
          none_here : (ds : List MethodDef) (i : ℕ) → i < length ds → slice_get ds i ≡ None → ⊥
          none_here [] i less none = omega (arith, less)
          none_here (d ∷ ds) zero less none = cc
          none_here (d ∷ ds) (suc i) less none = none_here ds i (omega (arith, less)) none

  some_class : 0 < length p.unit.classes
  some_class =
      let d = method_there in
      omega (arith, (well.methods p.method d.0 d.1).in_class)

  -- the class of an object is one of the unit
  pub class_there : (o : ℕ) → (c : ℕ) × (m.number (class_relation at) o ≡ pos c) × (c < length p.unit.classes)
  class_there o = elim (or_cases (int_eq z (pos 0) || (has_place p kinds AsNumber r o && in_bits p.scope.ints z)) (has_place p kinds AsClass r o && is_class_number p z) (of.numbers r o)) [
    | inl other ↦ elim (or_cases (int_eq z (pos 0)) (has_place p kinds AsNumber r o && in_bits p.scope.ints z) other) [
      | inl zero_class ↦ (0, (Decides-int_eq z (pos 0)).0 zero_class, some_class)
      | inr number ↦ absurd (false≢true (place_use AsNumber r o (and_parts (has_place p kinds AsNumber r o) (in_bits p.scope.ints z) number).0))
    ]
    | inr class ↦ go z refl (and_parts (has_place p kinds AsClass r o) (is_class_number p z) class).1
  ]
    where
      r : RelVar
      r = class_relation at

      z : ℤ
      z = m.number (class_relation at) o

      go : (z : ℤ) → m.number (class_relation at) o ≡ z → is_class_number p z ≡ true → (c : ℕ) × (m.number (class_relation at) o ≡ pos c) × (c < length p.unit.classes)
      go (pos c) is there = (c, is, ltb-true c (length p.unit.classes) there)
      go (negsuc c) is there = absurd (false≢true there)

  -- a relation of a kind has numbers within the bits
  pub in_bits_there : (r : RelVar) (o : ℕ) (k : Kind) → use_of p kinds r.what ≡ Some (use_of_kind k) → in_bits p.scope.ints (m.number r o) ≡ true
  in_bits_there r o k used = elim (or_cases (int_eq (m.number r o) (pos 0) || (has_place p kinds AsNumber r o && in_bits p.scope.ints (m.number r o)))
      (has_place p kinds AsClass r o && is_class_number p (m.number r o)) (of.numbers r o)) [
        | inl other ↦ elim (or_cases (int_eq (m.number r o) (pos 0)) (has_place p kinds AsNumber r o && in_bits p.scope.ints (m.number r o)) other) [
          | inl is_zero ↦
              ap (in_bits p.scope.ints) ((Decides-int_eq (m.number r o) (pos 0)).0 is_zero)
              ∙ lt-ltb 0 (2 ^ (p.scope.ints - 1)) (pow_pos (p.scope.ints - 1))
          | inr number ↦ (and_parts (has_place p kinds AsNumber r o) (in_bits p.scope.ints (m.number r o)) number).1
        ]
        | inr class ↦ absurd (false≢true (sym (never k) ∙ sym (ap (λ w. option_map_or (same_use AsClass) w false) used)
            ∙ place_use AsClass r o (and_parts (has_place p kinds AsClass r o) (is_class_number p (m.number r o)) class).0))
      ]
    where
      never : (k : Kind) → same_use AsClass (use_of_kind k) ≡ false
      never kind.Int = refl
      never kind.Flag = refl
      never (kind.Ref c) = refl

  abbrev live : ℕ → Bool
  live o = m.flag (live_relation at) o

  live_prefix : list_all (is_next at m) (numbers_below p.scope.objects) ≡ true → IsPrefix live p.scope.objects
  live_prefix all = prefix live step p.scope.objects none
    where
      none : (o : ℕ) → p.scope.objects ≤ o → m.flag (live_relation at) o ≡ false
      none o past = false_from_ne_true (m.flag (live_relation at) o) (λ holds. absurd (omega (arith, past, place_below AsFlag (live_relation at) o (of.flags (live_relation at) o holds))))

      step : (o : ℕ) → m.flag (live_relation at) (o + 1) ≡ true → m.flag (live_relation at) o ≡ true
      step o holds =
          let inside : o + 1 < p.scope.objects = place_below AsFlag (live_relation at) (o + 1) (of.flags (live_relation at) (o + 1) holds) in
          let here : is_next at m (o + 1) ≡ true = all_numbers (is_next at m) p.scope.objects (o + 1) all inside in
          let back : o + 1 - 1 ≡ o = omega arith in
          elim (or_cases ((o + 1) == 0 || not (m.flag (live_relation at) (o + 1))) (m.flag (live_relation at) (o + 1 - 1)) here) [
            | inr before ↦ ap (m.flag (live_relation at)) (sym back) ∙ before
            | inl other ↦ elim (or_cases ((o + 1) == 0) (not (m.flag (live_relation at) (o + 1))) other) [
              | inl is_zero ↦ absurd (false≢true (sym (ne_eqb (o + 1) 0 (λ same. omega (arith, same))) ∙ is_zero))
              | inr dead ↦ absurd (false≢true (sym (ap not holds) ∙ dead))
            ]
          ]

  -- the objects that are there are those below their number
  pub live_told : list_all (is_next at m) (numbers_below p.scope.objects) ≡ true → (o : ℕ) → m.flag (live_relation at) o ≡ nat_lt o (count m at)
  live_told all o =
      let found = live_prefix all in
      let many : count m at ≡ found.size - 0 = count_below live found.size found.told 0 m.objects (omega (arith, found.few, of.objects)) in
      found.told o ∙ ap (nat_lt o) (omega (arith, many))

  pub few_live : list_all (is_next at m) (numbers_below p.scope.objects) ≡ true → count m at ≤ p.scope.objects
  few_live all =
      let found = live_prefix all in
      let many : count m at ≡ found.size - 0 = count_below live found.size found.told 0 m.objects (omega (arith, found.few, of.objects)) in
      omega (arith, many, found.few)

-- Sets of one value: what the conditions on a set say.
use Rattle.std.proofs.Common.{◌≡◌, ℕ, zero, suc, ◌+◌, ◌<◌, ◌≤◌, Bool, true, false, not, ◌&&◌, ◌||◌, List, [], ◌∷◌, Some, inl, inr, refl, sym, ap, ◌∙◌, arith}
use Rattle.std.specs.Prelude.{◌==◌, nat_lt, pos, map, filter}
use Rattle.std.specs.Ordering.{int_eq}
use Rattle.std.specs.List.{list_all, range_with_len}
use Rattle.std.specs.Option.{option_map_or}
use Rattle.std.proofs.lemmas.Bool.{lt-ltb, ltb-true, false≢true, cases_eq, cases_Bool, eq-eqb, eqb-true, ne_eqb, and_parts, and_from, or_cases, or_left, or_right, false_from_ne_true}
use Rattle.std.proofs.lemmas.List.Folds.{list_all-map}
use Rattle.heap_core.specs.declared.value.Value.{Value}
use Rattle.heap_core.specs.declared.value.Value.TheVariants.{Null, Obj, Num, Flag}
use Rattle.heap_core.specs.Outcomes.{is_value, is_null}
use Rattle.heap_core.proofs.Lists.{all_at, all_from}
use Rattle.canonical_order.proofs.Counting.{slice_get-range, range_at}
use Rattle.rel_core.specs.declared.indices.Indices.{Indices}
use Rattle.rel_core.specs.Reading.{Reading, numbers_below, references, is_reference}
use Rattle.rel_core.specs.Meaning.{ValueSet, has_object, is_subset, are_of, only, only_object}
use Rattle.rel_core.specs.Shown.{live_relation, class_relation}
use Rattle.rel_core.specs.Laws.{is_of_shown}
use Rattle.canon_rel.specs.Shape.{is_null_alone, is_one_object, is_one_value, is_nothing}

-- ## tests over numbers below a bound

pub all_numbers : (t : ℕ → Bool) (n o : ℕ) → list_all t (range_with_len 0 n) ≡ true → o < n → t o ≡ true
all_numbers t n o all below = all_at t (range_with_len 0 n) o o all (slice_get-range 0 n o below ∙ ap Some (omega arith))

pub each_number : (t : ℕ → Bool) (n : ℕ) → ((o : ℕ) → o < n → t o ≡ true) → list_all t (range_with_len 0 n) ≡ true
each_number t n each = all_from t (range_with_len 0 n) (λ i o there. each o (omega (arith, (range_at n i o there).0, (range_at n i o there).1)))

-- ## tests over references

pub all_references : (t : Value → Bool) (k : ℕ) (v : Value) → list_all t (references k) ≡ true → is_reference k v ≡ true → t v ≡ true
all_references t k Null all is = (and_parts (t Null) (list_all t (map Obj (numbers_below k))) all).0
all_references t k (Obj o) all is =
    all_numbers (λ o. t (Obj o)) k o (sym (list_all-map t Obj (numbers_below k)) ∙ (and_parts (t Null) (list_all t (map Obj (numbers_below k))) all).1) (ltb-true o k is)
all_references t k (Num z) all is = absurd (false≢true is)
all_references t k (Flag b) all is = absurd (false≢true is)

pub each_reference : (t : Value → Bool) (k : ℕ) → ((v : Value) → is_reference k v ≡ true → t v ≡ true) → list_all t (references k) ≡ true
each_reference t k each =
    and_from (t Null) (list_all t (map Obj (numbers_below k))) (each Null refl)
    (list_all-map t Obj (numbers_below k) ∙ each_number (λ o. t (Obj o)) k (λ o below. each (Obj o) (lt-ltb o k below)))

subset_at : (m : Reading) (s t : ValueSet) (v : Value) → is_subset m s t ≡ true → is_reference m.objects v ≡ true → s v ≡ true → t v ≡ true
subset_at m s t v all is holds = sym (ap (λ b. not b || t v) holds) ∙ all_references (λ v. not (s v) || t v) m.objects v all is

subset_from : (m : Reading) (s t : ValueSet) → ((v : Value) → is_reference m.objects v ≡ true → s v ≡ true → t v ≡ true) → is_subset m s t ≡ true
subset_from m s t each = each_reference (λ v. not (s v) || t v) m.objects (λ v is. at_value v is (s v) refl)
  where
    at_value : (v : Value) → is_reference m.objects v ≡ true → (b : Bool) → s v ≡ b → (not b || t v) ≡ true
    at_value v is true holds = each v is holds
    at_value v is false lacks = refl

-- ## the only number that passes

filter_none : (t : ℕ → Bool) (a k : ℕ) → ((q : ℕ) → a ≤ q → q < a + k → t q ≡ false) → filter t (range_with_len a k) ≡ []
filter_none t a zero none = refl
filter_none t a (suc k) none = rw (none a (omega arith) (omega arith)) (filter_none t (a + 1) k (λ q low high. none q (omega (arith, low)) (omega (arith, high))))

pub filter_one : (t : ℕ → Bool) (a k o : ℕ) → a ≤ o → o < a + k → ((q : ℕ) → t q ≡ (o == q)) → filter t (range_with_len a k) ≡ o ∷ []
filter_one t a zero o low high is = absurd (omega (arith, low, high))
filter_one t a (suc k) o low high is = elim (cases_eq o a) [
  | inl same ↦
      rw (is a ∙ eq-eqb o a same)
      (ap (λ os. a ∷ os) (filter_none t (a + 1) k (λ q above below. is q ∙ ne_eqb o q (λ equal. omega (arith, equal, same, above)))) ∙ ap (λ q. q ∷ []) (sym same))
  | inr apart ↦ rw (is a ∙ ne_eqb o a apart) (filter_one t (a + 1) k o (omega (arith, low, apart)) (omega (arith, high)) is)
]

-- a filtered range that is one number
record IsOne (t : ℕ → Bool) (a k o : ℕ) : Type 0 where
  low : a ≤ o
  high : o < a + k
  passes : t o ≡ true
  alone : (q : ℕ) → a ≤ q → q < a + k → t q ≡ true → q ≡ o

none_pass : (t : ℕ → Bool) (a k : ℕ) → filter t (range_with_len a k) ≡ [] → (q : ℕ) → a ≤ q → q < a + k → t q ≡ true → ⊥
none_pass t a zero is q low high passes = absurd (omega (arith, low, high))
none_pass t a (suc k) is q low high passes = elim (cases_Bool (t a)) [
  | inl here ↦ absurd (let more : a ∷ filter t (range_with_len (a + 1) k) ≡ [] = sym (rw here refl) ∙ is in cc)
  | inr not_here ↦ elim (cases_eq q a) [
    | inl same ↦ false≢true (sym not_here ∙ ap t (sym same) ∙ passes)
    | inr apart ↦ none_pass t (a + 1) k (sym (rw not_here refl) ∙ is) q (omega (arith, low, apart)) (omega (arith, high)) passes
  ]
]

is_one : (t : ℕ → Bool) (a k o : ℕ) → filter t (range_with_len a k) ≡ o ∷ [] → IsOne t a k o
is_one t a zero o is = absurd (cc)
is_one t a (suc k) o is = elim (cases_Bool (t a)) [
  | inl here ↦
      let more : a ∷ filter t (range_with_len (a + 1) k) ≡ o ∷ [] = sym (rw here refl) ∙ is in
      let same : a ≡ o = cc in
      let rest : filter t (range_with_len (a + 1) k) ≡ [] = cc in
      record {
        low = omega (arith, same);
        high = omega (arith, same);
        passes = ap t (sym same) ∙ here;
        alone = λ q low high passes. elim (cases_eq q a) [
          | inl equal ↦ equal ∙ same
          | inr apart ↦ absurd (none_pass t (a + 1) k rest q (omega (arith, low, apart)) (omega (arith, high)) passes)
        ];
      }
  | inr not_here ↦
      let rest = is_one t (a + 1) k o (sym (rw not_here refl) ∙ is) in
      record {
        low = omega (arith, rest.low);
        high = omega (arith, rest.high);
        passes = rest.passes;
        alone = λ q low high passes. elim (cases_eq q a) [
          | inl equal ↦ absurd (false≢true (sym not_here ∙ ap t (sym equal) ∙ passes))
          | inr apart ↦ rest.alone q (omega (arith, low, apart)) (omega (arith, high)) passes
        ];
      }
]

-- ## sets of one value

-- the value is null, or an object that is there and of this class
abbrev pub may_be : Reading → Indices → ℕ → Value → Bool
may_be m at c Null = true
may_be m at c (Obj o) = is_of_shown m at c o
may_be m at c _ = false

-- the set is one value, which may be so
pub record IsOneValue (m : Reading) (at : Indices) (c : ℕ) (s : ValueSet) : Type 0 where
  pub value : Value
  pub below : is_reference m.objects value ≡ true
  pub alone : (u : Value) → s u ≡ is_value value u
  pub allowed : may_be m at c value ≡ true

-- the set has references alone
abbrev pub HasReferences : Reading → ValueSet → Type 0
HasReferences m s = (u : Value) → s u ≡ true → is_reference m.objects u ≡ true

-- a set of references is told by what it has of them
beyond : (m : Reading) (s : ValueSet) → HasReferences m s → (v u : Value) → is_reference m.objects v ≡ true → is_reference m.objects u ≡ false → s u ≡ is_value v u
beyond m s refs v u below above =
    false_from_ne_true (s u) (λ holds. false≢true (sym above ∙ refs u holds)) ∙ sym (false_from_ne_true (is_value v u) (λ is. false≢true (sym above ∙ same v u below is)))
  where
    same : (v u : Value) → is_reference m.objects v ≡ true → is_value v u ≡ true → is_reference m.objects u ≡ true
    same Null Null below is = refl
    same Null (Obj q) below is = absurd (false≢true is)
    same Null (Num z) below is = absurd (false≢true is)
    same Null (Flag b) below is = absurd (false≢true is)
    same (Obj o) (Obj q) below is = ap (λ n. nat_lt n m.objects) (sym (eqb-true o q is)) ∙ below
    same (Obj o) Null below is = absurd (false≢true is)
    same (Obj o) (Num z) below is = absurd (false≢true is)
    same (Obj o) (Flag b) below is = absurd (false≢true is)
    same (Num z) u below is = absurd (false≢true below)
    same (Flag b) u below is = absurd (false≢true below)

only_told : (m : Reading) (s : ValueSet) → HasReferences m s → (v : Value) → is_reference m.objects v ≡ true
    → ((u : Value) → is_reference m.objects u ≡ true → s u ≡ is_value v u) → (u : Value) → s u ≡ is_value v u
only_told m s refs v below each u = elim (cases_Bool (is_reference m.objects u)) [
  | inl is ↦ each u is
  | inr other ↦ beyond m s refs v u below other
]

module _ (m : Reading) (at : Indices) (c : ℕ) (s : ValueSet) where
  null_told : HasReferences m s → is_null_alone m s ≡ true → IsOneValue m at c s
  null_told refs is = record { value = Null; below = refl; alone = only_told m s refs Null refl each; allowed = refl }
    where
      parts : (is_subset m s is_null ≡ true) × (is_subset m is_null s ≡ true)
      parts = and_parts (is_subset m s is_null) (is_subset m is_null s) is

      each : (u : Value) → is_reference m.objects u ≡ true → s u ≡ is_value Null u
      each Null is = subset_at m is_null s Null parts.1 refl refl
      each (Obj o) is = false_from_ne_true (s (Obj o)) (λ holds. false≢true (subset_at m s is_null (Obj o) parts.0 is holds))
      each (Num z) is = absurd (false≢true is)
      each (Flag b) is = absurd (false≢true is)

  -- the object of a set that is one
  pub record IsOneObject : Type 0 where
    pub object : ℕ
    pub inside : object < m.objects
    pub told : (u : Value) → s u ≡ is_value (Obj object) u
    pub of : is_of_shown m at c object ≡ true

  pub object_told : HasReferences m s → is_one_object m at c s ≡ true → IsOneObject
  object_told refs is = go (filter (has_object s) (numbers_below m.objects)) refl inner.0
    where
      outer : ((option_map_or (m.flag (live_relation at)) (only_object m s) false && are_of m s c (class_relation at)) ≡ true) × (not (is_subset m is_null s) ≡ true)
      outer = and_parts (option_map_or (m.flag (live_relation at)) (only_object m s) false && are_of m s c (class_relation at)) (not (is_subset m is_null s)) is

      inner : (option_map_or (m.flag (live_relation at)) (only_object m s) false ≡ true) × (are_of m s c (class_relation at) ≡ true)
      inner = and_parts (option_map_or (m.flag (live_relation at)) (only_object m s) false) (are_of m s c (class_relation at)) outer.0

      no_null : s Null ≡ false
      no_null = false_from_ne_true (s Null) (λ holds. false≢true (sym (ap not (subset_from m is_null s (λ v is null. only_null v null holds))) ∙ outer.1))
        where
          only_null : (v : Value) → is_null v ≡ true → s Null ≡ true → s v ≡ true
          only_null Null null holds = holds
          only_null (Obj o) null holds = absurd (false≢true null)
          only_null (Num z) null holds = absurd (false≢true null)
          only_null (Flag b) null holds = absurd (false≢true null)

      one : (o : ℕ) → filter (has_object s) (numbers_below m.objects) ≡ o ∷ [] → m.flag (live_relation at) o ≡ true → IsOneObject
      one o is live = record {
        object = o;
        inside = omega (arith, only.high);
        told = only_told m s refs (Obj o) (lt-ltb o m.objects (omega (arith, only.high))) each;
        of = and_from (m.flag (live_relation at) o) (int_eq (m.number (class_relation at) o) (pos c)) live class;
      }
        where
          only : IsOne (has_object s) 0 m.objects o
          only = is_one (has_object s) 0 m.objects o is

          class : int_eq (m.number (class_relation at) o) (pos c) ≡ true
          class =
              sym (ap (λ b. not b || int_eq (m.number (class_relation at) o) (pos c)) only.passes)
              ∙ all_numbers (λ o. not (has_object s o) || int_eq (m.number (class_relation at) o) (pos c)) m.objects o inner.1 (omega (arith, only.high))

          each : (u : Value) → is_reference m.objects u ≡ true → s u ≡ is_value (Obj o) u
          each Null is = no_null
          each (Obj q) is = elim (cases_eq o q) [
            | inl same ↦ ap (λ n. s (Obj n)) (sym same) ∙ only.passes ∙ sym (eq-eqb o q same)
            | inr apart ↦ false_from_ne_true (s (Obj q)) (λ holds. apart (sym (only.alone q (omega arith) (omega (arith, ltb-true q m.objects is)) holds))) ∙ sym (ne_eqb o q apart)
          ]
          each (Num z) is = absurd (false≢true is)
          each (Flag b) is = absurd (false≢true is)

      go : (os : List ℕ) → filter (has_object s) (numbers_below m.objects) ≡ os → option_map_or (m.flag (live_relation at)) (only_object m s) false ≡ true → IsOneObject
      go [] is live = absurd (false≢true (sym (ap (λ os. option_map_or (m.flag (live_relation at)) (only os) false) is) ∙ live))
      go (o ∷ []) is live = one o is (sym (ap (λ os. option_map_or (m.flag (live_relation at)) (only os) false) is) ∙ live)
      go (o ∷ q ∷ os) is live = absurd (false≢true (sym (ap (λ os. option_map_or (m.flag (live_relation at)) (only os) false) is) ∙ live))

  pub value_told : HasReferences m s → is_one_value m at c s ≡ true → IsOneValue m at c s
  value_told refs is = elim (or_cases (is_null_alone m s) (is_one_object m at c s) is) [
    | inl null ↦ null_told refs null
    | inr object ↦
        let one = object_told refs object in
        record { value = Obj one.object; below = lt-ltb one.object m.objects one.inside; alone = one.told; allowed = one.of }
  ]

  pub nothing_told : HasReferences m s → is_nothing m s ≡ true → (u : Value) → s u ≡ false
  nothing_told refs is u = false_from_ne_true (s u) (λ holds. none u (refs u holds) holds)
    where
      parts : (is_subset m s is_null ≡ true) × (not (is_subset m is_null s) ≡ true)
      parts = and_parts (is_subset m s is_null) (not (is_subset m is_null s)) is

      only_null : s Null ≡ true → (v : Value) → is_null v ≡ true → s v ≡ true
      only_null holds Null null = holds
      only_null holds (Obj o) null = absurd (false≢true null)
      only_null holds (Num z) null = absurd (false≢true null)
      only_null holds (Flag b) null = absurd (false≢true null)

      none : (u : Value) → is_reference m.objects u ≡ true → s u ≡ true → ⊥
      none Null is holds = false≢true (sym (ap not (subset_from m is_null s (λ v is null. only_null holds v null))) ∙ parts.1)
      none (Obj o) is holds = false≢true (subset_at m s is_null (Obj o) parts.0 is holds)
      none (Num z) is holds = false≢true is
      none (Flag b) is holds = false≢true is

  -- ## back

  no_null_within : s Null ≡ false → not (is_subset m is_null s) ≡ true
  no_null_within lacks = ap not (false_from_ne_true (is_subset m is_null s) (λ all. false≢true (sym lacks ∙ subset_at m is_null s Null all refl refl)))

  pub nothing_from : ((u : Value) → s u ≡ false) → is_nothing m s ≡ true
  nothing_from none =
      and_from (is_subset m s is_null) (not (is_subset m is_null s)) (subset_from m s is_null (λ v is holds. absurd (false≢true (sym (none v) ∙ holds)))) (no_null_within (none Null))

  pub null_from : ((u : Value) → s u ≡ is_value Null u) → is_null_alone m s ≡ true
  null_from alone = and_from (is_subset m s is_null) (is_subset m is_null s) (subset_from m s is_null (λ v is holds. null_is v (sym (alone v) ∙ holds)))
      (subset_from m is_null s (λ v is null. alone v ∙ is_null_value v null))
    where
      null_is : (v : Value) → is_value Null v ≡ true → is_null v ≡ true
      null_is Null is = refl
      null_is (Obj o) is = is
      null_is (Num z) is = is
      null_is (Flag b) is = is

      is_null_value : (v : Value) → is_null v ≡ true → is_value Null v ≡ true
      is_null_value Null is = refl
      is_null_value (Obj o) is = is
      is_null_value (Num z) is = is
      is_null_value (Flag b) is = is

  pub object_from : (o : ℕ) → o < m.objects → ((u : Value) → s u ≡ is_value (Obj o) u) → is_of_shown m at c o ≡ true → is_one_object m at c s ≡ true
  object_from o below alone of =
      let parts = and_parts (m.flag (live_relation at) o) (int_eq (m.number (class_relation at) o) (pos c)) of in
      and_from (option_map_or (m.flag (live_relation at)) (only_object m s) false && are_of m s c (class_relation at)) (not (is_subset m is_null s))
      (and_from (option_map_or (m.flag (live_relation at)) (only_object m s) false) (are_of m s c (class_relation at))
      (ap (λ os. option_map_or (m.flag (live_relation at)) (only os) false) (filter_one (has_object s) 0 m.objects o (omega arith) (omega (arith, below)) (λ q. alone (Obj q))) ∙ parts.0)
      (each_number (λ q. not (has_object s q) || int_eq (m.number (class_relation at) q) (pos c)) m.objects (λ q inside. class q (has_object s q) refl parts.1)))
      (no_null_within (alone Null))
    where
      class : (q : ℕ) (b : Bool) → has_object s q ≡ b → int_eq (m.number (class_relation at) o) (pos c) ≡ true → (not b || int_eq (m.number (class_relation at) q) (pos c)) ≡ true
      class q false lacks is = refl
      class q true holds is = ap (λ n. int_eq (m.number (class_relation at) n) (pos c)) (sym (eqb-true o q (sym (alone (Obj q)) ∙ holds))) ∙ is

  pub value_from : IsOneValue m at c s → is_one_value m at c s ≡ true
  value_from is = go is.value is.below is.alone is.allowed
    where
      go : (v : Value) → is_reference m.objects v ≡ true → ((u : Value) → s u ≡ is_value v u) → may_be m at c v ≡ true → is_one_value m at c s ≡ true
      go Null below alone allowed = or_left (is_null_alone m s) (is_one_object m at c s) (null_from alone)
      go (Obj o) below alone allowed = or_right (is_null_alone m s) (is_one_object m at c s) (object_from o (ltb-true o m.objects below) alone allowed)
      go (Num z) below alone allowed = absurd (false≢true below)
      go (Flag b) below alone allowed = absurd (false≢true below)

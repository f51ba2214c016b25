-- Tests of the numbers below a bound, and sets of one object.
use Rattle.std.proofs.Common.{◌≡◌, ℕ, zero, suc, ◌+◌, ◌<◌, ◌≤◌, Bool, true, false, not, ◌&&◌, ◌||◌, List, [], ◌∷◌, map, Some, inl, inr, refl, sym, ◌∙◌, ap, arith}
use Rattle.std.specs.Prelude.{◌==◌, filter}
use Rattle.std.specs.List.{list_all, list_any, range_with_len}
use Rattle.std.proofs.lemmas.Bool.{cases_eq, eq-eqb, ne_eqb, ltb-true, false≢true, and_parts, and_from}
use Rattle.heap_core.specs.declared.value.Value.{Value}
use Rattle.heap_core.specs.declared.value.Value.TheVariants.{Null, Obj, Num, Flag}
use Rattle.heap_core.specs.Outcomes.{is_null}
use Rattle.rel_core.specs.declared.relation.RelVar.{RelVar}
use Rattle.rel_core.specs.Reading.{Reading, numbers_below, references, is_reference}
use Rattle.rel_core.specs.Meaning.{ValueSet, has_object, joined, only_object, is_subset}
use Rattle.dyn_steps.specs.Meanings.{same_sets, is_through}

-- ## numbers

pub all_below : (t : ℕ → Bool) (a n o : ℕ) → list_all t (range_with_len a n) ≡ true → a ≤ o → o < a + n → t o ≡ true
all_below t a zero o all low high = absurd (omega arith)
all_below t a (suc n) o all low high =
    let both = and_parts (t a) (list_all t (range_with_len (a + 1) n)) all in
    elim (cases_eq o a) [
      | inl same ↦ ap t same ∙ both.0
      | inr apart ↦ all_below t (a + 1) n o both.1 (omega arith) (omega arith)
    ]

pub all_numbers : (t : ℕ → Bool) (a n : ℕ) → ((o : ℕ) → o < a + n → t o ≡ true) → list_all t (range_with_len a n) ≡ true
all_numbers t a zero each = refl
all_numbers t a (suc n) each = and_from (t a) (list_all t (range_with_len (a + 1) n)) (each a (omega arith)) (all_numbers t (a + 1) n (λ o low. each o (omega arith)))

none_of : (t : ℕ → Bool) (o : ℕ) → ((q : ℕ) → t q ≡ (o == q)) → (a n : ℕ) → o < a → filter t (range_with_len a n) ≡ []
none_of t o is a zero low = refl
none_of t o is a (suc n) low = rw (is a ∙ ne_eqb o a (λ same. absurd (omega arith))) (none_of t o is (a + 1) n (omega arith))

one_of : (t : ℕ → Bool) (o : ℕ) → ((q : ℕ) → t q ≡ (o == q)) → (a n : ℕ) → a ≤ o → o < a + n → filter t (range_with_len a n) ≡ o ∷ []
one_of t o is a zero low high = absurd (omega arith)
one_of t o is a (suc n) low high = elim (cases_eq o a) [
  | inl same ↦ rw (is a ∙ eq-eqb o a same) (ap (λ os. a ∷ os) (none_of t o is (a + 1) n (omega arith)) ∙ ap (λ q. q ∷ []) (sym same))
  | inr apart ↦ rw (is a ∙ ne_eqb o a apart) (one_of t o is (a + 1) n (omega arith) (omega arith))
]

any_none : (t g : ℕ → Bool) (o : ℕ) → ((q : ℕ) → t q ≡ (o == q)) → (a n : ℕ) → o < a → list_any (λ q. t q && g q) (range_with_len a n) ≡ false
any_none t g o is a zero low = refl
any_none t g o is a (suc n) low = rw (is a ∙ ne_eqb o a (λ same. absurd (omega arith))) (any_none t g o is (a + 1) n (omega arith))

or_false : (b : Bool) → (b || false) ≡ b
or_false true = refl
or_false false = refl

any_of : (t g : ℕ → Bool) (o : ℕ) → ((q : ℕ) → t q ≡ (o == q)) → (a n : ℕ) → a ≤ o → o < a + n → list_any (λ q. t q && g q) (range_with_len a n) ≡ g o
any_of t g o is a zero low high = absurd (omega arith)
any_of t g o is a (suc n) low high = elim (cases_eq o a) [
  | inl same ↦ rw (is a ∙ eq-eqb o a same) (ap (λ b. g a || b) (any_none t g o is (a + 1) n (omega arith)) ∙ or_false (g a) ∙ ap g (sym same))
  | inr apart ↦ rw (is a ∙ ne_eqb o a apart) (any_of t g o is (a + 1) n (omega arith) (omega arith))
]

-- ## sets of one object

-- the set has this object and no other
abbrev pub IsOneObject : ValueSet → ℕ → Type 0
IsOneObject s o = (q : ℕ) → has_object s q ≡ (o == q)

pub one_object : (m : Reading) (s : ValueSet) (o : ℕ) → IsOneObject s o → o < m.objects → only_object m s ≡ Some o
one_object m s o is low = rw (one_of (has_object s) o is 0 m.objects (omega arith) (omega arith)) refl

pub one_joined : (m : Reading) (s : ValueSet) (r : RelVar) (o : ℕ) (v : Value) → IsOneObject s o → o < m.objects → joined m s r v ≡ m.refs r o v
one_joined m s r o v is low = any_of (has_object s) (λ q. m.refs r q v) o is 0 m.objects (omega arith) (omega arith)

-- ## the references of two sets

all_objects : (t : Value → Bool) (os : List ℕ) → list_all t (map Obj os) ≡ list_all (λ o. t (Obj o)) os
all_objects t [] = refl
all_objects t (o ∷ os) = ap (λ b. t (Obj o) && b) (all_objects t os)

pub all_references : (t : Value → Bool) (k : ℕ) → list_all t (references k) ≡ (t Null && list_all (λ o. t (Obj o)) (numbers_below k))
all_references t k = ap (λ b. t Null && b) (all_objects t (numbers_below k))

-- what holds of all references
pub reference_has : (t : Value → Bool) (k : ℕ) (v : Value) → list_all t (references k) ≡ true → is_reference k v ≡ true → t v ≡ true
reference_has t k v all is = at v is
  where
    both : (t Null ≡ true) × (list_all (λ o. t (Obj o)) (numbers_below k) ≡ true)
    both = and_parts (t Null) (list_all (λ o. t (Obj o)) (numbers_below k)) (sym (all_references t k) ∙ all)

    at : (v : Value) → is_reference k v ≡ true → t v ≡ true
    at Null is = both.0
    at (Obj o) is = let low : o < k = ltb-true o k is in all_below (λ o. t (Obj o)) 0 k o both.1 (omega arith) (omega arith)
    at (Num z) is = absurd (false≢true is)
    at (Flag b) is = absurd (false≢true is)

pub references_have : (t : Value → Bool) (k : ℕ) → ((v : Value) → t v ≡ true) → list_all t (references k) ≡ true
references_have t k each = all_references t k ∙ and_from (t Null) (list_all (λ o. t (Obj o)) (numbers_below k)) (each Null) (all_numbers (λ o. t (Obj o)) 0 k (λ o low. each (Obj o)))

-- a set of references that are looked at
abbrev pub IsWithin : ℕ → ValueSet → Type 0
IsWithin k s = (v : Value) → s v ≡ true → is_reference k v ≡ true

implied : (a b : Bool) → (not a || b) ≡ true → a ≡ true → b ≡ true
implied true b is has = is
implied false b is has = absurd (false≢true has)

implies_self : (a b : Bool) → a ≡ b → (not a || b) ≡ true
implies_self true true same = refl
implies_self false b same = refl
implies_self true false same = absurd (false≢true (sym same))

subset_has : (m : Reading) (s t : ValueSet) → IsWithin m.objects s → is_subset m s t ≡ true → (v : Value) → s v ≡ true → t v ≡ true
subset_has m s t within is v has = implied (s v) (t v) (reference_has (λ v. not (s v) || t v) m.objects v is (within v has)) has

pub both_ways : (a b : Bool) → (a ≡ true → b ≡ true) → (b ≡ true → a ≡ true) → a ≡ b
both_ways true b on back = sym (on refl)
both_ways false true on back = back refl
both_ways false false on back = refl

pub sets_alike : (m : Reading) (s t : ValueSet) → IsWithin m.objects s → IsWithin m.objects t → same_sets m s t ≡ true → (v : Value) → s v ≡ t v
sets_alike m s t first second is v =
    let both = and_parts (is_subset m s t) (is_subset m t s) is in
    both_ways (s v) (t v) (subset_has m s t first both.0 v) (subset_has m t s second both.1 v)

pub sets_same : (m : Reading) (s t : ValueSet) → ((v : Value) → s v ≡ t v) → same_sets m s t ≡ true
sets_same m s t alike =
    and_from (is_subset m s t) (is_subset m t s)
    (references_have (λ v. not (s v) || t v) m.objects (λ v. implies_self (s v) (t v) (alike v)))
    (references_have (λ v. not (t v) || s v) m.objects (λ v. implies_self (t v) (s v) (sym (alike v))))

-- a variable is not null exactly where null is not in its set
pub through_is : (m : Reading) (r : RelVar) → is_through m r ≡ not (m.refs r 0 Null)
through_is m r = ap not (both_ways (is_subset m is_null (m.refs r 0)) (m.refs r 0 Null)
    (λ is. reference_has (λ v. not (is_null v) || m.refs r 0 v) m.objects Null is refl)
    (λ has. references_have (λ v. not (is_null v) || m.refs r 0 v) m.objects (at has)))
  where
    at : m.refs r 0 Null ≡ true → (v : Value) → (not (is_null v) || m.refs r 0 v) ≡ true
    at has Null = has
    at has (Obj o) = refl
    at has (Num z) = refl
    at has (Flag b) = refl

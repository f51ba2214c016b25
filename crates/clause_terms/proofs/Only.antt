-- Sets that have one value and nothing else: what is asked of them.
use Rattle.std.proofs.Common.{◌≡◌, ℕ, zero, suc, ◌+◌, ◌<◌, ◌≤◌, Bool, true, false, not, ◌&&◌, ◌||◌, List, [], ◌∷◌, inl, inr, refl, sym, ap, ◌∙◌, arith}
use Rattle.std.specs.Prelude.{◌==◌, filter, pos}
use Rattle.std.specs.Ordering.{int_eq}
use Rattle.std.specs.List.{list_any, list_all, range_with_len}
use Rattle.std.proofs.lemmas.Bool.{false≢true, ltb-true, cases_eq, eq-eqb, ne_eqb}
use Rattle.std.proofs.lemmas.List.Folds.{list_all-map}
use Rattle.heap_core.specs.declared.value.Value.{Value}
use Rattle.heap_core.specs.declared.value.Value.TheVariants.{Null, Obj, Num, Flag}
use Rattle.heap_core.specs.Outcomes.{is_value}
use Rattle.rel_core.specs.declared.relation.RelVar.{RelVar}
use Rattle.rel_core.specs.Reading.{Reading, numbers_below}
use Rattle.rel_core.specs.Meaning.{ValueSet, has_object, joined, objects_in, only, only_object, is_subset, are_of}
use Rattle.clause_terms.specs.Terms.{IsOnly}

-- ## tests of the numbers that pass another

pub any_filter : (p g : ℕ → Bool) (xs : List ℕ) → list_any (λ q. p q && g q) xs ≡ list_any g (filter p xs)
any_filter p g [] = refl
any_filter p g (x ∷ xs) = by (p x) refl (any_filter p g xs)
  where
    by : (b : Bool) → p x ≡ b → list_any (λ q. p q && g q) xs ≡ list_any g (filter p xs) → list_any (λ q. p q && g q) (x ∷ xs) ≡ list_any g (filter p (x ∷ xs))
    by true is rest = rw is (ap (λ b. g x || b) rest)
    by false is rest = rw is rest

pub all_filter : (p g : ℕ → Bool) (xs : List ℕ) → list_all (λ q. not (p q) || g q) xs ≡ list_all g (filter p xs)
all_filter p g [] = refl
all_filter p g (x ∷ xs) = by (p x) refl (all_filter p g xs)
  where
    by : (b : Bool) → p x ≡ b → list_all (λ q. not (p q) || g q) xs ≡ list_all g (filter p xs) → list_all (λ q. not (p q) || g q) (x ∷ xs) ≡ list_all g (filter p (x ∷ xs))
    by true is rest = rw is (ap (λ b. g x && b) rest)
    by false is rest = rw is rest

none_pass : (p : ℕ → Bool) → ((q : ℕ) → p q ≡ false) → (xs : List ℕ) → filter p xs ≡ []
none_pass p none [] = refl
none_pass p none (x ∷ xs) = rw (none x) (none_pass p none xs)

module _ (p : ℕ → Bool) (o : ℕ) (one : (q : ℕ) → p q ≡ (o == q)) where
  passed : (a n : ℕ) → o < a → filter p (range_with_len a n) ≡ []
  passed a zero past = refl
  passed a (suc n) past = let e : p a ≡ false = one a ∙ ne_eqb o a (λ is. absurd (omega (arith, is, past))) in rw e (passed (a + 1) n (omega arith))

  one_passes : (a n : ℕ) → a ≤ o → o < a + n → filter p (range_with_len a n) ≡ o ∷ []
  one_passes a zero from within = absurd (omega arith)
  one_passes a (suc n) from within = elim (cases_eq o a) [
    | inl same ↦ let e : p a ≡ true = one a ∙ eq-eqb o a same in rw (e, passed (a + 1) n (omega (arith, same))) (ap (λ q. q ∷ []) (sym same))
    | inr other ↦ let e : p a ≡ false = one a ∙ ne_eqb o a other in rw e (one_passes (a + 1) n (omega (arith, other)) (omega arith))
  ]

-- ## a set that is one value

-- the numbers of the objects that a value is
abbrev pub numbers_of : Value → List ℕ
numbers_of (Obj o) = o ∷ []
numbers_of _ = []

pub members : (m : Reading) (s : ValueSet) (v : Value) → IsOnly m s v → objects_in m s ≡ numbers_of v
members m s Null one = none_pass (has_object s) (λ q. one.exact (Obj q)) (numbers_below m.objects)
members m s (Obj o) one = let below : o < m.objects = ltb-true o m.objects one.reference in one_passes (has_object s) o (λ q. one.exact (Obj q)) 0 m.objects (omega arith) (omega (arith, below))
members m s (Num z) one = absurd (false≢true one.reference)
members m s (Flag b) one = absurd (false≢true one.reference)

pub only_one : (m : Reading) (s : ValueSet) (v : Value) → IsOnly m s v → only_object m s ≡ only (numbers_of v)
only_one m s v one = ap only (members m s v one)

pub joined_one : (m : Reading) (s : ValueSet) (v : Value) (r : RelVar) (u : Value) → IsOnly m s v → joined m s r u ≡ list_any (λ o. m.refs r o u) (numbers_of v)
joined_one m s v r u one = any_filter (has_object s) (λ o. m.refs r o u) (numbers_below m.objects) ∙ ap (list_any (λ o. m.refs r o u)) (members m s v one)

pub class_one : (m : Reading) (s : ValueSet) (v : Value) (c : ℕ) (r : RelVar) → IsOnly m s v → are_of m s c r ≡ list_all (λ o. int_eq (m.number r o) (pos c)) (numbers_of v)
class_one m s v c r one = all_filter (has_object s) (λ o. int_eq (m.number r o) (pos c)) (numbers_below m.objects) ∙ ap (list_all (λ o. int_eq (m.number r o) (pos c))) (members m s v one)

and_true : (b : Bool) → (b && true) ≡ b
and_true true = refl
and_true false = refl

-- it is within a set exactly where the set has the value
pub subset_one : (m : Reading) (s t : ValueSet) (v : Value) → IsOnly m s v → is_subset m s t ≡ t v
subset_one m s t v one =
    ap (λ b. (not (s Null) || t Null) && b) (list_all-map (λ w. not (s w) || t w) Obj (numbers_below m.objects) ∙ all_filter (has_object s) (has_object t) (numbers_below m.objects) ∙ ap
    (list_all (has_object t)) (members m s v one))
    ∙ ap (λ b. (not b || t Null) && list_all (has_object t) (numbers_of v)) (one.exact Null)
    ∙ each v one
  where
    each : (v : Value) → IsOnly m s v → ((not (is_value v Null) || t Null) && list_all (has_object t) (numbers_of v)) ≡ t v
    each Null one = and_true (t Null)
    each (Obj o) one = and_true (t (Obj o))
    each (Num z) one = absurd (false≢true one.reference)
    each (Flag b) one = absurd (false≢true one.reference)

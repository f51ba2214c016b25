-- What is asked of all numbers below k has one answer under any naming of them.
use Rattle.std.proofs.Common.{◌≡◌, ℕ, zero, suc, ◌+◌, ◌<◌, ◌≤◌, Bool, true, false, eqb, not, List, [], ◌∷◌, length, refl, sym, ◌∙◌, ap, inl, inr, ◌⊎◌, arith}
use Rattle.std.specs.Prelude.{map, filter, count_by}
use Rattle.std.specs.List.{range_with_len, list_any, list_all, IsDistinct, AllByRecursion}
use Rattle.std.specs.Cmp.{IsEquivalence}
use Rattle.std.proofs.lemmas.Bool.{cases_Bool, cases_eq, false≢true, eq-eqb, eqb-true, ne_eqb}
use Rattle.std.proofs.lemmas.List.{length-map}
use Rattle.std.proofs.lemmas.List.Sums.{length-filter}
use Rattle.std.proofs.lemmas.Map.Made.{length-le_from_is_member}
use Rattle.heap_symmetry.specs.Renaming.{IsNaming}

pub same_truth : (a b : Bool) → (a ≡ true → b ≡ true) → (b ≡ true → a ≡ true) → a ≡ b
same_truth true b f g = sym (f refl)
same_truth false true f g = g refl
same_truth false false f g = refl

-- two numbers are one exactly where their names are
pub same_name : {n m : ℕ → ℕ} → IsNaming n m → (a b : ℕ) → eqb (n a) (n b) ≡ eqb a b
same_name {n} {m} naming a b =
    same_truth (eqb (n a) (n b)) (eqb a b) (λ is. eq-eqb a b (sym (naming.back a) ∙ ap m (eqb-true (n a) (n b) is) ∙ naming.back b)) (λ is. eq-eqb (n a) (n b) (ap n (eqb-true a b is)))

-- names of the numbers below k are below k
pub record Within (k : ℕ) (n m : ℕ → ℕ) : Type 0 where
  pub naming : IsNaming n m
  pub there : (o : ℕ) → o < k → n o < k
  pub back : (o : ℕ) → o < k → m o < k

-- the other way round
turned : {k : ℕ} {n m : ℕ → ℕ} → Within k n m → Within k m n
turned w = record {
  naming = record { there = w.naming.back; back = w.naming.there };
  there = w.back;
  back = w.there;
}

any_at : (t : ℕ → Bool) (a d o : ℕ) → a ≤ o → o < a + d → t o ≡ true → list_any t (range_with_len a d) ≡ true
any_at t a zero o low high is = absurd (omega (arith, low, high))
any_at t a (suc d) o low high is = elim (cases_eq a o) [
  | inl same ↦ let e : t a ≡ true = ap t same ∙ is in rw e refl
  | inr apart ↦ let rest = any_at t (a + 1) d o (omega (arith, low, apart)) (omega (arith, high)) is in grind (arith, rest)
]

any_some : (t : ℕ → Bool) (a d : ℕ) → list_any t (range_with_len a d) ≡ true → (o : ℕ) × (a ≤ o) × (o < a + d) × (t o ≡ true)
any_some t a zero is = absurd (false≢true is)
any_some t a (suc d) is = elim (cases_Bool (t a)) [
  | inl here ↦ (a, omega arith, omega arith, here)
  | inr not_here ↦
      let rest = any_some t (a + 1) d (rw not_here at is) in
      (rest.0, omega (arith, rest.1), omega (arith, rest.2), rest.3)
]

any_named : {k : ℕ} {n m : ℕ → ℕ} → Within k n m → (t u : ℕ → Bool) → ((o : ℕ) → t o ≡ true → u (n o) ≡ true) → list_any t (range_with_len 0 k) ≡ true → list_any u (range_with_len 0 k) ≡ true
any_named {k} {n} w t u same is =
    let some = any_some t 0 k is in
    any_at u 0 k (n some.0) (omega arith) (omega (arith, w.there some.0 (omega (arith, some.2)))) (same some.0 some.3)

pub any_same : {k : ℕ} {n m : ℕ → ℕ} → Within k n m → (t u : ℕ → Bool) → ((o : ℕ) → u (n o) ≡ t o) → list_any u (range_with_len 0 k) ≡ list_any t (range_with_len 0 k)
any_same {k} {n} {m} w t u same =
    same_truth (list_any u (range_with_len 0 k)) (list_any t (range_with_len 0 k)) (any_named (turned w) u t (λ o is. sym (same (m o)) ∙ ap u (w.naming.there o) ∙ is)) (any_named w t u (λ o is. same o ∙ is))

all_is : (t : ℕ → Bool) (xs : List ℕ) → list_all t xs ≡ not (list_any (λ o. not (t o)) xs)
all_is t [] = refl
all_is t (x ∷ xs) = elim (cases_Bool (t x)) [
  | inl is ↦ rw is (all_is t xs)
  | inr is ↦ rw is refl
]

pub all_same : {k : ℕ} {n m : ℕ → ℕ} → Within k n m → (t u : ℕ → Bool) → ((o : ℕ) → u (n o) ≡ t o) → list_all u (range_with_len 0 k) ≡ list_all t (range_with_len 0 k)
all_same {k} {n} w t u same =
    all_is u (range_with_len 0 k) ∙ ap not (any_same w (λ o. not (t o)) (λ o. not (u o)) (λ o. ap not (same o))) ∙ sym (all_is t (range_with_len 0 k))

-- ## as many numbers pass

in_filter : (t : ℕ → Bool) (a d q : ℕ) → a ≤ q → q < a + d → t q ≡ true → list_any (eqb q) (filter t (range_with_len a d)) ≡ true
in_filter t a zero q low high is = absurd (omega (arith, low, high))
in_filter t a (suc d) q low high is = elim (cases_eq q a) [
  | inl same ↦
      let e : t a ≡ true = ap t (sym same) ∙ is in
      rw e (grind (arith, eq-eqb q a same))
  | inr apart ↦
      let rest = in_filter t (a + 1) d q (omega (arith, low, apart)) (omega (arith, high)) is in
      elim (cases_Bool (t a)) [ inl here ↦ rw here (grind (arith, rest)) | inr not_here ↦ rw not_here rest ]
]

-- the names of those that pass
abbrev names : (ℕ → ℕ) → (ℕ → Bool) → ℕ → ℕ → List ℕ
names n t a d = map n (filter t (range_with_len a d))

record IsNameOf (n : ℕ → ℕ) (t : ℕ → Bool) (a d q o : ℕ) : Type 0 where
  low : a ≤ o
  high : o < a + d
  passes : t o ≡ true
  named : q ≡ n o

of_names : (n : ℕ → ℕ) (t : ℕ → Bool) (a d q : ℕ) → list_any (eqb q) (names n t a d) ≡ true → (o : ℕ) × IsNameOf n t a d q o
of_names n t a zero q is = absurd (false≢true is)
of_names n t a (suc d) q is = elim (cases_Bool (t a)) [
  | inl here ↦ elim (cases_eq q (n a)) [
    | inl same ↦ (a, record { low = omega arith; high = omega arith; passes = here; named = same })
    | inr apart ↦ further (of_names n t (a + 1) d q (grind (arith, rw here at is, ne_eqb q (n a) apart)))
  ]
  | inr not_here ↦ further (of_names n t (a + 1) d q (rw not_here at is))
]
  where
    further : (o : ℕ) × IsNameOf n t (a + 1) d q o → (o : ℕ) × IsNameOf n t a (suc d) q o
    further (o, is) = (o, record { low = omega (arith, is.low); high = omega (arith, is.high); passes = is.passes; named = is.named })

names_differ : {n m : ℕ → ℕ} → IsNaming n m → (t : ℕ → Bool) (a d : ℕ) → IsDistinct eqb (names n t a d)
unfolding IsDistinct
names_differ naming t a zero = tt
names_differ {n} {m} naming t a (suc d) = elim (cases_Bool (t a)) [
  | inl here ↦ rw here (
    none (names n t (a + 1) d) (λ is. let o = of_names n t (a + 1) d (n a) is in
        let same : eqb a o.0 ≡ true = sym (same_name naming a o.0) ∙ eq-eqb (n a) (n o.0) o.1.named in
        omega (arith, eqb-true a o.0 same, o.1.low)),
    names_differ naming t (a + 1) d,
  )
  | inr not_here ↦ rw not_here (names_differ naming t (a + 1) d)
]
  where
    none : (xs : List ℕ) → (list_any (eqb (n a)) xs ≡ true → ⊥) → AllByRecursion (λ y. eqb (n a) y ≡ false) xs
    none [] never = tt
    none (x ∷ xs) never = elim (cases_Bool (eqb (n a) x)) [
      | inl same ↦ absurd (never (grind (arith, same)))
      | inr apart ↦ (apart, none xs (λ is. never (grind (arith, apart, is))))
    ]

eqb_laws : IsEquivalence eqb
eqb_laws = record {
  refl = λ x. eq-eqb x x refl;
  symm = λ x y. grind arith;
  congr = λ x y z same. ap (λ w. eqb w z) (eqb-true x y same);
}

count_le : {k : ℕ} {n m : ℕ → ℕ} → Within k n m → (t u : ℕ → Bool) → ((o : ℕ) → u (n o) ≡ t o) → count_by t (range_with_len 0 k) ≤ count_by u (range_with_len 0 k)
count_le {k} {n} {m} w t u same =
    let few : length (names n t 0 k) ≤ length (filter u (range_with_len 0 k)) =
    length-le_from_is_member eqb_laws (names n t 0 k) (filter u (range_with_len 0 k)) (names_differ w.naming t 0 k) (λ q is. let o = of_names n t 0 k q is in
    let inside : q < k = omega (arith, o.1.named, w.there o.0 (omega (arith, o.1.high))) in
    in_filter u 0 k q (omega arith) (omega (arith, inside)) (ap u o.1.named ∙ same o.0 ∙ o.1.passes))
    in
    let long : length (names n t 0 k) ≡ length (filter t (range_with_len 0 k)) = length-map (filter t (range_with_len 0 k)) n in
    omega (arith, few, long, length-filter t (range_with_len 0 k), length-filter u (range_with_len 0 k))

pub count_same : {k : ℕ} {n m : ℕ → ℕ} → Within k n m → (t u : ℕ → Bool) → ((o : ℕ) → u (n o) ≡ t o) → count_by u (range_with_len 0 k) ≡ count_by t (range_with_len 0 k)
count_same {k} {n} {m} w t u same =
    omega (arith, count_le w t u same, count_le (turned w) u t (λ o. sym (same (m o)) ∙ ap u (w.naming.there o)))

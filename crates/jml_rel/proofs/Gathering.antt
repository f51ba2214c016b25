-- Conjunctions that are gathered part by part.
use Rattle.std.proofs.Common.{◌≡◌, ℕ, zero, suc, ◌+◌, ◌≤◌, ◌<◌, Bool, true, false, not, ◌&&◌, ◌||◌, List, [], ◌∷◌, ◌++◌, length, drop, inl, inr, refl, sym, ap, ◌∙◌, arith}
use Rattle.std.specs.Prelude.{◌==◌, get_or, flat_map}
use Rattle.std.specs.List.{list_any, list_all, range_with_len}
use Rattle.std.proofs.lemmas.Bool.{cases_eq, cases_lt, eq-eqb, ne_eqb}
use Rattle.std.proofs.lemmas.List.{drop_more, drop_all}
use Rattle.std.proofs.lemmas.List.Folds.{list_all-append}
use Rattle.rel_core.specs.Reading.{numbers_below}
use Rattle.clause_terms.proofs.Quantified.{all_last}

and_true : (b : Bool) → (b && true) ≡ b
and_true true = refl
and_true false = refl

and_apart : (a b c : Bool) → ((a && b) && c) ≡ (a && (b && c))
and_apart true b c = refl
and_apart false b c = refl

pub not_any : {A : Type 0} (test : A → Bool) (xs : List A) → not (list_any test xs) ≡ list_all (λ x. not (test x)) xs
not_any test [] = refl
not_any test (x ∷ xs) = by (test x) (not_any test xs)
  where
    by : (b : Bool) → not (list_any test xs) ≡ list_all (λ x. not (test x)) xs → not (b || list_any test xs) ≡ (not b && list_all (λ x. not (test x)) xs)
    by true rest = refl
    by false rest = rest

pub same_all : {A : Type 0} (f g : A → Bool) → ((x : A) → f x ≡ g x) → (xs : List A) → list_all f xs ≡ list_all g xs
same_all f g same [] = refl
same_all f g same (x ∷ xs) = ap (λ b. b && list_all f xs) (same x) ∙ ap (λ b. g x && b) (same_all f g same xs)

pub all_flat : {A B : Type 0} (test : B → Bool) (f : A → List B) (xs : List A) → list_all test (flat_map f xs) ≡ list_all (λ x. list_all test (f x)) xs
all_flat test f [] = refl
all_flat test f (x ∷ xs) = list_all-append test (f x) (flat_map f xs) ∙ ap (λ b. list_all test (f x) && b) (all_flat test f xs)

-- ## one part more, for the next element of a list, or the next number

pub part_more : {A B : Type 0} (h : B → Bool) (test : A → Bool) (parts more : List B) (f : B) (xs : List A) (i : ℕ) (x : A)
    → i < length xs → more ≡ parts ++ f ∷ [] → h f ≡ test (get_or xs i x) → (list_all h parts && list_all test (drop i xs)) ≡ list_all test xs
    → (list_all h more && list_all test (drop (i + 1) xs)) ≡ list_all test xs
part_more h test parts more f xs i x within is one before =
    ap (λ ys. list_all h ys && list_all test (drop (i + 1) xs)) is
    ∙ ap (λ b. b && list_all test (drop (i + 1) xs)) (all_last h parts f)
    ∙ and_apart (list_all h parts) (h f) (list_all test (drop (i + 1) xs))
    ∙ ap (λ b. list_all h parts && (b && list_all test (drop (i + 1) xs))) one
    ∙ ap (λ ys. list_all h parts && list_all test ys) (sym (drop_more xs i x within))
    ∙ before

pub parts_whole : {A B : Type 0} (h : B → Bool) (test : A → Bool) (parts : List B) (xs : List A) (i : ℕ)
    → length xs ≤ i → (list_all h parts && list_all test (drop i xs)) ≡ list_all test xs → list_all h parts ≡ list_all test xs
parts_whole h test parts xs i past before = sym (and_true (list_all h parts)) ∙ ap (λ ys. list_all h parts && list_all test ys) (sym (drop_all i xs past)) ∙ before

range_last : (a n : ℕ) → range_with_len a (n + 1) ≡ range_with_len a n ++ (a + n) ∷ []
range_last a zero = let e : a ≡ a + 0 = omega arith in ap (λ x. x ∷ []) e
range_last a (suc n) =
    let longer : suc n + 1 ≡ suc (n + 1) = omega arith in
    let last : a + 1 + n ≡ a + suc n = omega arith in
    ap (range_with_len a) longer ∙ ap (λ xs. a ∷ xs) (range_last (a + 1) n) ∙ ap (λ x. a ∷ (range_with_len (a + 1) n ++ x ∷ [])) last

numbers_last : (n : ℕ) → numbers_below (n + 1) ≡ numbers_below n ++ n ∷ []
numbers_last n = let e : 0 + n ≡ n = omega arith in range_last 0 n ∙ ap (λ x. range_with_len 0 n ++ x ∷ []) e

pub number_more : {B : Type 0} (h : B → Bool) (test : ℕ → Bool) (parts more : List B) (f : B) (n : ℕ)
    → more ≡ parts ++ f ∷ [] → h f ≡ test n → list_all h parts ≡ list_all test (numbers_below n) → list_all h more ≡ list_all test (numbers_below (n + 1))
number_more h test parts more f n is one before =
    ap (list_all h) is ∙ all_last h parts f ∙ ap (λ b. b && h f) before ∙ ap (λ b. list_all test (numbers_below n) && b) one
    ∙ sym (ap (list_all test) (numbers_last n) ∙ all_last test (numbers_below n) n)

-- ## tests that all but some numbers pass

pub all_pass : (test : ℕ → Bool) (a n : ℕ) → ((x : ℕ) → a ≤ x → test x ≡ true) → list_all test (range_with_len a n) ≡ true
all_pass test a zero pass = refl
all_pass test a (suc n) pass = let one : test a ≡ true = pass a (omega arith) in rw one (all_pass test (a + 1) n (λ x from. pass x (omega (arith, from))))

pub longer : (test : ℕ → Bool) (a n k : ℕ) → n ≤ k → ((x : ℕ) → a + n ≤ x → test x ≡ true) → list_all test (range_with_len a k) ≡ list_all test (range_with_len a n)
longer test a zero k few pass = all_pass test a k (λ x from. pass x (omega (arith, from)))
longer test a (suc n) zero few pass = absurd (omega (arith, few))
longer test a (suc n) (suc k) few pass = ap (λ b. test a && b) (longer test (a + 1) n k (omega (arith, few)) (λ x from. pass x (omega (arith, from))))

module _ (g : ℕ → Bool) (x : ℕ) where
  apart : (a n : ℕ) → x < a → list_all (λ c. not (x == c) || g c) (range_with_len a n) ≡ true
  apart a n past = all_pass (λ c. not (x == c) || g c) a n (λ c from. rw (ne_eqb x c (λ is. absurd (omega (arith, is, past, from)))) refl)

  within : (a n : ℕ) → a ≤ x → x < a + n → list_all (λ c. not (x == c) || g c) (range_with_len a n) ≡ g x
  within a zero from below = absurd (omega (arith, from, below))
  within a (suc n) from below = elim (cases_eq x a) [
    | inl same ↦ let e : (x == a) ≡ true = eq-eqb x a same in rw (e, apart (a + 1) n (omega (arith, same))) (and_true (g a) ∙ ap g (sym same))
    | inr other ↦ let e : (x == a) ≡ false = ne_eqb x a other in rw e (within (a + 1) n (omega (arith, other, from)) (omega (arith, below)))
  ]

  beyond : (a n : ℕ) → a + n ≤ x → list_all (λ c. not (x == c) || g c) (range_with_len a n) ≡ true
  beyond a zero past = refl
  beyond a (suc n) past = let e : (x == a) ≡ false = ne_eqb x a (λ is. absurd (omega (arith, is, past))) in rw e (beyond (a + 1) n (omega (arith, past)))

  -- of the numbers below n the test asks one alone
  pub asks_one : (n : ℕ) → (n ≤ x → g x ≡ true) → list_all (λ c. not (x == c) || g c) (numbers_below n) ≡ g x
  asks_one n past = elim (cases_lt x n) [
    | inl below ↦ within 0 n (omega arith) (omega (arith, below))
    | inr above ↦ beyond 0 n (omega (arith, above)) ∙ sym (past above)
  ]

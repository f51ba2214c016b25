-- The only object of a set: of the list of its objects, and as each object tells of itself.
use Rattle.std.proofs.Common.{◌≡◌, ℕ, zero, suc, ◌+◌, ◌<◌, ◌≤◌, Bool, true, false, not, ◌&&◌, ◌||◌, List, [], ◌∷◌, refl, sym, ap, ◌∙◌, arith, inl, inr}
use Rattle.std.specs.Prelude.{◌==◌, filter, if◌then◌else◌}
use Rattle.std.specs.List.{list_all, list_any, range_with_len}
use Rattle.std.specs.Option.{option_map_or}
use Rattle.std.proofs.lemmas.Bool.{cases_Bool, cases_eq, and_from, and_left, and_right, or_from, or_left, or_right, eq-eqb, ne_eqb, not_from_true, not_from_false}
use Rattle.gate_sets.specs.Shapes.{is_only}
use Rattle.rel_core.specs.Meaning.{only}

-- ## tests over ranges

all_range : (test : ℕ → Bool) (a n : ℕ) → ((q : ℕ) → a ≤ q → q < a + n → test q ≡ true) → list_all test (range_with_len a n) ≡ true
all_range test a zero each = refl
all_range test a (suc n) each =
    and_from (test a) (list_all test (range_with_len (a + 1) n)) (each a (omega arith) (omega arith)) (all_range test (a + 1) n (λ q from to. each q (omega (arith, from))
    (omega (arith, to))))

not_all : (test : ℕ → Bool) (a n q : ℕ) → a ≤ q → q < a + n → test q ≡ false → list_all test (range_with_len a n) ≡ false
not_all test a zero q from to fails = absurd (omega (arith, from, to))
not_all test a (suc n) q from to fails =
    elim (cases_eq q a) [
      | inl same ↦ and_left (test a) (list_all test (range_with_len (a + 1) n)) (ap test (sym same) ∙ fails)
      | inr other ↦ and_right (test a) (list_all test (range_with_len (a + 1) n)) (not_all test (a + 1) n q (omega (arith, from, other)) (omega (arith, to)) fails)
    ]

not_any : (test : ℕ → Bool) (a n : ℕ) → ((q : ℕ) → a ≤ q → q < a + n → test q ≡ false) → list_any test (range_with_len a n) ≡ false
not_any test a zero each = refl
not_any test a (suc n) each =
    or_from (test a) (list_any test (range_with_len (a + 1) n)) (each a (omega arith) (omega arith)) (not_any test (a + 1) n (λ q from to. each q (omega (arith, from)) (omega (arith, to))))

-- ## what is filtered

pub none_filtered : (set : ℕ → Bool) (a n : ℕ) → filter set (range_with_len a n) ≡ [] → (q : ℕ) → a ≤ q → q < a + n → set q ≡ false
none_filtered set a zero is q from to = absurd (omega (arith, from, to))
none_filtered set a (suc n) is q from to =
    elim (cases_Bool (set a)) [
      | inl there ↦ absurd (let full : (a ∷ filter set (range_with_len (a + 1) n)) ≡ [] = sym (ap (λ b. if b then a ∷ filter set (range_with_len (a + 1) n) else filter
          set (range_with_len (a + 1) n)) there) ∙ is in cc)
      | inr absent ↦ elim (cases_eq q a) [
        | inl same ↦ ap set same ∙ absent
        | inr other ↦
            none_filtered set (a + 1) n (sym (ap (λ b. if b then a ∷ filter set (range_with_len (a + 1) n) else filter set (range_with_len (a + 1) n)) absent)
            ∙ is) q (omega (arith, from, other)) (omega (arith, to))
      ]
    ]

pub first_filtered : (set : ℕ → Bool) (a n q : ℕ) (qs : List ℕ) → filter set (range_with_len a n) ≡ q ∷ qs → (a ≤ q) × (q < a + n) × (set q ≡ true)
first_filtered set a zero q qs is = absurd (cc)
first_filtered set a (suc n) q qs is =
    elim (cases_Bool (set a)) [
      | inl there ↦
          let full : (a ∷ filter set (range_with_len (a + 1) n)) ≡ q ∷ qs = sym (ap (λ b. if b then a ∷ filter set (range_with_len (a + 1) n) else filter set
          (range_with_len (a + 1) n)) there) ∙ is in
          let same : a ≡ q = cc in
          (omega (arith, same), omega (arith, same), ap set (sym same) ∙ there)
      | inr absent ↦
          let rest = first_filtered set (a + 1) n q qs (sym (ap (λ b. if b then a ∷ filter set (range_with_len (a + 1) n) else filter set (range_with_len (a + 1) n)) absent) ∙ is) in
          (omega (arith, rest.0), omega (arith, rest.1), rest.2)
    ]

-- ## the only one

or_none : (b : Bool) → (b || false) ≡ b
or_none true = refl
or_none false = refl

abbrev alone : (ℕ → Bool) → List ℕ → ℕ → Bool
alone set os o = set o && list_all (λ p. not (set p) || p == o) os

-- of a set that has a, and of the numbers behind a
with_first : (set f : ℕ → Bool) (a n : ℕ) (found : List ℕ) → set a ≡ true → filter set (range_with_len (a + 1) n) ≡ found
    → option_map_or f (only (a ∷ found)) false ≡ ((alone set (a ∷ range_with_len (a + 1) n) a && f a) || list_any (λ o. alone set (a ∷ range_with_len (a + 1) n) o && f o)
    (range_with_len (a + 1) n))
with_first set f a n [] there is =
    let none = none_filtered set (a + 1) n is in
    let rest : list_all (λ p. not (set p) || p == a) (range_with_len (a + 1) n) ≡ true =
    all_range (λ p. not (set p) || p == a) (a + 1) n (λ q from to. or_left (not (set q)) (q == a) (not_from_false (set q) (none q from to))) in
    let here : alone set (a ∷ range_with_len (a + 1) n) a ≡ true =
    and_from (set a) (list_all (λ p. not (set p) || p == a) (a ∷ range_with_len (a + 1) n)) there
    (and_from (not (set a) || a == a) (list_all (λ p. not (set p) || p == a) (range_with_len (a + 1) n)) (or_right (not (set a)) (a == a) (eq-eqb a a refl)) rest) in
    let others : list_any (λ o. alone set (a ∷ range_with_len (a + 1) n) o && f o) (range_with_len (a + 1) n) ≡ false =
    not_any (λ o. alone set (a ∷ range_with_len (a + 1) n) o && f o) (a + 1) n (λ q from to.
    and_left (alone set (a ∷ range_with_len (a + 1) n) q) (f q) (and_left (set q) (list_all (λ p. not (set p) || p == q) (a ∷ range_with_len (a + 1) n)) (none q from to))) in
    sym (ap (λ b. (b && f a) || list_any (λ o. alone set (a ∷ range_with_len (a + 1) n) o && f o) (range_with_len (a + 1) n)) here ∙ ap (λ b. f a || b) others ∙ or_none (f a))
with_first set f a n (q ∷ qs) there is =
    let first = first_filtered set (a + 1) n q qs is in
    let second : (not (set q) || q == a) ≡ false = or_from (not (set q)) (q == a) (not_from_true (set q) first.2) (ne_eqb q a (λ same. absurd (omega (arith, same, first.0)))) in
    let here : alone set (a ∷ range_with_len (a + 1) n) a ≡ false =
    and_right (set a) (list_all (λ p. not (set p) || p == a) (a ∷ range_with_len (a + 1) n))
    (and_right (not (set a) || a == a) (list_all (λ p. not (set p) || p == a) (range_with_len (a + 1) n)) (not_all (λ p. not (set p) || p == a) (a + 1) n q first.0 first.1 second)) in
    let others : list_any (λ o. alone set (a ∷ range_with_len (a + 1) n) o && f o) (range_with_len (a + 1) n) ≡ false =
    not_any (λ o. alone set (a ∷ range_with_len (a + 1) n) o && f o) (a + 1) n (λ o from to.
    and_left (alone set (a ∷ range_with_len (a + 1) n) o) (f o)
    (and_right (set o) (list_all (λ p. not (set p) || p == o) (a ∷ range_with_len (a + 1) n))
    (and_left (not (set a) || a == o) (list_all (λ p. not (set p) || p == o) (range_with_len (a + 1) n)) (or_from (not (set a)) (a == o) (not_from_true (set a) there)
    (ne_eqb a o (λ same. absurd (omega (arith, same, from)))))))) in
    sym (ap (λ b. (b && f a) || list_any (λ o. alone set (a ∷ range_with_len (a + 1) n) o && f o) (range_with_len (a + 1) n)) here ∙ others)

only_from : (set f : ℕ → Bool) (a n : ℕ) → option_map_or f (only (filter set (range_with_len a n))) false ≡ list_any (λ o. alone set (range_with_len a n) o && f o) (range_with_len a n)
only_from set f a zero = refl
only_from set f a (suc n) =
    elim (cases_Bool (set a)) [
      | inl there ↦
          ap (λ b. option_map_or f (only (if b then a ∷ filter set (range_with_len (a + 1) n) else filter set (range_with_len (a + 1) n))) false) there
          ∙ with_first set f a n (filter set (range_with_len (a + 1) n)) there refl
      | inr absent ↦
          let rest = range_with_len (a + 1) n in
          let all = λ (b : Bool). list_any (λ o. (set o && ((not b || a == o) && list_all (λ p. not (set p) || p == o) rest)) && f o) rest in
          ap (λ b. option_map_or f (only (if b then a ∷ filter set rest else filter set rest)) false) absent
          ∙ only_from set f (a + 1) n
          ∙ sym (ap (λ b. ((b && list_all (λ p. not (set p) || p == a) (a ∷ rest)) && f a) || all b) absent)
    ]

-- a truth value at the only object of a set
pub only_value : (set f : ℕ → Bool) (count : ℕ) → option_map_or f (only (filter set (range_with_len 0 count))) false ≡ list_any (λ o. is_only count set o && f o) (range_with_len 0 count)
only_value set f count = only_from set f 0 count

-- The only object of a set: it is in the set, and not more than one is.
use Rattle.std.proofs.Common.{◌≡◌, ℕ, zero, suc, ◌+◌, ◌<◌, Bool, true, false, not, ◌&&◌, ◌||◌, refl, sym, ap, ◌∙◌, arith, inl, inr}
use Rattle.std.specs.Prelude.{◌==◌}
use Rattle.std.specs.List.{list_all, list_any, range_with_len}
use Rattle.std.proofs.lemmas.Bool.{false≢true, false_from_ne_true, cases_Bool, cases_lt, cases_eq, or_left, or_right, and_parts, and_from, eqb-true, eq-eqb, not_from_false}
use Rattle.std.proofs.lemmas.Bool.Decides.{same_from_decides}
use Rattle.heap_core.proofs.Closure.{any_below, any_in}
use Rattle.gate_sets.specs.Shapes.{are_many, is_only}
use Rattle.gate_sets.proofs.Places.{all_last}

-- two tests that pass together
pub iff : (x y : Bool) → (x ≡ true → y ≡ true) → (y ≡ true → x ≡ true) → x ≡ y
iff x y forth back = same_from_decides x y (λ is. is, λ is. is) (back, forth)

pub all_below : (test : ℕ → Bool) (n : ℕ) → ((p : ℕ) → p < n → test p ≡ true) → list_all test (range_with_len 0 n) ≡ true
all_below test zero each = refl
all_below test (suc n) each =
    let next : suc n ≡ n + 1 = omega arith in
    ap (λ k. list_all test (range_with_len 0 k)) next ∙ all_last test n
    ∙ and_from (list_all test (range_with_len 0 n)) (test n) (all_below test n (λ p below. each p (omega arith))) (each n (omega arith))

pub all_in : (test : ℕ → Bool) (n p : ℕ) → list_all test (range_with_len 0 n) ≡ true → p < n → test p ≡ true
all_in test zero p all below = absurd (omega arith)
all_in test (suc n) p all below =
    let next : n + 1 ≡ suc n = omega arith in
    let parts = and_parts (list_all test (range_with_len 0 n)) (test n) (sym (all_last test n) ∙ ap (λ k. list_all test (range_with_len 0 k)) next ∙ all) in
    elim (cases_lt p n) [
      | inl before ↦ all_in test n p parts.0 before
      | inr past ↦ let same : n ≡ p = omega arith in ap test (sym same) ∙ parts.1
    ]

-- two numbers that are there
many_from : (count i j : ℕ) (a : ℕ → Bool) → i < j → j < count → a i ≡ true → a j ≡ true → are_many count a ≡ true
many_from count i j a less below is_i is_j =
    any_below (λ j. a j && list_any a (range_with_len 0 j)) count j below (and_from (a j) (list_any a (range_with_len 0 j)) is_j (any_below a j i less is_i))

meets : (b c : Bool) → b ≡ true → (not b || c) ≡ true → c ≡ true
meets true c is all = all
meets false c is all = absurd (false≢true is)

pub only_is : (count : ℕ) (a : ℕ → Bool) (o : ℕ) → o < count → (a o && not (are_many count a)) ≡ is_only count a o
only_is count a o within = iff (a o && not (are_many count a)) (is_only count a o) forth back
  where
    forth : (a o && not (are_many count a)) ≡ true → is_only count a o ≡ true
    forth is =
        let parts = and_parts (a o) (not (are_many count a)) is in
        let few : are_many count a ≡ true → ⊥ = λ many. false≢true (sym (ap not many) ∙ parts.1) in
        and_from (a o) (list_all (λ p. not (a p) || p == o) (range_with_len 0 count)) parts.0
        (all_below (λ p. not (a p) || p == o) count (λ p below.
        elim (cases_Bool (a p)) [
          | inr not_there ↦ or_left (not (a p)) (p == o) (not_from_false (a p) not_there)
          | inl there ↦ elim (cases_eq p o) [
            | inl same ↦ or_right (not (a p)) (p == o) (eq-eqb p o same)
            | inr apart ↦ elim (cases_lt p o) [
              | inl before ↦ absurd (few (many_from count p o a before within there parts.0))
              | inr after ↦ absurd (few (many_from count o p a (omega arith) below parts.0 there))
            ]
          ]
        ]))

    back : is_only count a o ≡ true → (a o && not (are_many count a)) ≡ true
    back is =
        let parts = and_parts (a o) (list_all (λ p. not (a p) || p == o) (range_with_len 0 count)) is in
        let one : (p : ℕ) → p < count → a p ≡ true → p ≡ o =
        λ p below there. eqb-true p o (meets (a p) (p == o) there (all_in (λ p. not (a p) || p == o) count p parts.1 below)) in
        and_from (a o) (not (are_many count a)) parts.0
        (not_from_false (are_many count a) (false_from_ne_true (are_many count a) (λ many.
        let last = any_in (λ j. a j && list_any a (range_with_len 0 j)) count many in
        let both = and_parts (a last.0) (list_any a (range_with_len 0 last.0)) last.2 in
        let first = any_in a last.0 both.1 in
        let here : last.0 ≡ o = one last.0 last.1 both.0 in
        let there : first.0 ≡ o = one first.0 (omega (arith, first.1, last.1)) first.2 in
        absurd (omega (arith, here, there, first.1)))))

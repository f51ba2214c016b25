-- Numbers that words write.
use Rattle.std.proofs.Common.{◌≡◌, ℕ, ◌^◌, ◌<◌, ◌≤◌, ◌&&◌, nat_lt, Bool, true, false, not, List, Some, None, Result, Ok, refl, sym, ap, ◌∙◌, subst, arith}
use Rattle.std.specs.Prelude.{bytes_eq}
use Rattle.std.specs.Fmt.{decimal}
use Rattle.std.specs.Str.Parse.{digits_value, ParsesUnsigned}
use Rattle.std.proofs.lemmas.Bool.{and_from, and_parts, le-ltb, ltb-false, not-true}
use Rattle.std.proofs.lemmas.Fmt.{decimal_is_IsNumeral, parse-decimal}
use Rattle.std.proofs.lemmas.Slice.Eq.{bytes_eq-Decides}
use Rattle.taco_words.specs.Numbers.{number_up_to}

-- a word that is the decimal text of a number writes this number
pub written : (most n : ℕ) (word : List ℕ) → n < 2 ^ 64 → bytes_eq word (decimal n) ≡ true → n ≤ most → number_up_to most word ≡ Some n
written most n word small same within =
    let is : word ≡ decimal n = (bytes_eq-Decides word (decimal n)).0 same in
    let value : digits_value 10 word ≡ n = ap (digits_value 10) is ∙ (decimal_is_IsNumeral n small).1 in
    let test : (bytes_eq word (decimal (digits_value 10 word)) && not (nat_lt most (digits_value 10 word))) ≡ true =
    and_from _ _ (subst (λ v. bytes_eq word (decimal v) ≡ true) (sym value) same) (subst (λ v. not (nat_lt most v) ≡ true) (sym value) (ap not (le-ltb most n within))) in
    rw test (ap Some value)

-- where std reads no number of which the word is the decimal text, the word writes none
pub unwritten : {E : Type 0} (most : ℕ) (word : List ℕ) (r : Result ℕ E) → most < 2 ^ 64 → ParsesUnsigned 64 10 word r
    → ((n : ℕ) → r ≡ Ok n → n ≤ most → bytes_eq word (decimal n) ≡ true → ⊥) → number_up_to most word ≡ None
unwritten {E} most word r small reads none = by_test (bytes_eq word (decimal (digits_value 10 word)) && not (nat_lt most (digits_value 10 word))) refl
  where
    by_test : (t : Bool) → (bytes_eq word (decimal (digits_value 10 word)) && not (nat_lt most (digits_value 10 word))) ≡ t → number_up_to most word ≡ None
    by_test false fails = rw fails refl
    by_test true holds =
        let n : ℕ = digits_value 10 word in
        let parts : (bytes_eq word (decimal n) ≡ true) × (not (nat_lt most n) ≡ true) = and_parts (bytes_eq word (decimal n)) (not (nat_lt most n)) holds in
        let within : n ≤ most = ltb-false most n (not-true (nat_lt most n) parts.1) in
        let read : r ≡ Ok n = parse-decimal 64 n word r (omega (arith, within, small)) (omega (arith, within, small)) ((bytes_eq-Decides word (decimal n)).0 parts.0) reads in
        absurd (none n read within parts.0)

-- where std reads another number, or one that is too great, the word writes none
pub left_out : {E : Type 0} (most number : ℕ) (word : List ℕ) (r : Result ℕ E) → most < 2 ^ 64 → ParsesUnsigned 64 10 word r → r ≡ Ok number
    → (number ≤ most → bytes_eq word (decimal number) ≡ true → ⊥) → number_up_to most word ≡ None
left_out {E} most number word r small reads is none =
    unwritten most word r small reads (λ n read within same.
    let e : n ≡ number = cc (read, is) in
    none (subst (λ k. k ≤ most) e within) (subst (λ k. bytes_eq word (decimal k) ≡ true) e same))

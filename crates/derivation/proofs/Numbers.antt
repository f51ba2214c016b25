-- Decimal numbers: their digits, and that no two have one text.
use Rattle.std.proofs.Common.{◌≡◌, ℕ, ◌^◌, ◌<◌, ◌==◌, ◌&&◌, ◌||◌, nat_lt, Bool, false, Result, Ok, List, length, get_or, slice_index, suc, zero, sym, ap, subst, inl, inr, ◌∙◌, arith}
use Rattle.std.specs.Fmt.{decimal}
use Rattle.std.specs.Result.{OkIff}
use Rattle.std.specs.Str.Parse.{AllDigits, digits_value, ParsesUnsigned}
use Rattle.std.proofs.lemmas.Bool.{ne_eqb, or_from, and_left, or_parts, eqb-false, ltb-false, and_cases}
use Rattle.std.proofs.lemmas.Str.Parse.{IsNumeralModel, numerals_by_value, tells_digits, digit_at, parse_plain}
use Rattle.std.proofs.lemmas.Fmt.{first_decimal, digits_decimal, decimal_digit, decimal-digits_value}
use Rattle.std.specs.Int.{IsInRange}

own : IsNumeralModel (AllDigits 10) (digits_value 10)
own = numerals_by_value (AllDigits 10) tells_digits

-- each byte of a number is a digit
pub decimal_digits : (n i : ℕ) → n < 2 ^ 64 → i < length (decimal n) → IsInRange 48 57 (get_or (decimal n) i 0)
decimal_digits n i small within = digit_at (decimal n) i (digits_decimal own n small) within

-- whether a plus stands first, or a zero before other bytes
abbrev pub signed_or_padded : List ℕ → Bool
signed_or_padded bytes = (slice_index bytes 0 == 43) || ((slice_index bytes 0 == 48) && nat_lt 1 (length bytes))

-- no number is written so
pub decimal_plain : (n : ℕ) → n < 2 ^ 64 → signed_or_padded (decimal n) ≡ false
decimal_plain zero small = ap signed_or_padded (decimal_digit 0 (omega arith))
decimal_plain (suc n) small =
    or_from (slice_index (decimal (suc n)) 0 == 43) _ (ne_eqb (get_or (decimal (suc n)) 0 0) 43 (λ (e : get_or (decimal (suc n)) 0 0 ≡ 43). absurd (omega (arith, first))))
    (and_left (slice_index (decimal (suc n)) 0 == 48) _ (ne_eqb (get_or (decimal (suc n)) 0 0) 48 (λ (e : get_or (decimal (suc n)) 0 0 ≡ 48). absurd (omega (arith, first)))))
  where
    first : 48 < get_or (decimal (suc n)) 0 0
    first = first_decimal (suc n) (omega arith) small

-- What std's reading of an unsigned number gives, but for those two, is what was written.
pub parsed : {E : Type 0} (bytes : List ℕ) (r : Result ℕ E) (n : ℕ) → ParsesUnsigned 32 10 bytes r → r ≡ Ok n → signed_or_padded bytes ≡ false → bytes ≡ decimal n
parsed {E} bytes r n reads is plain =
    let parts : ((slice_index bytes 0 == 43) ≡ false) × (((slice_index bytes 0 == 48) && nat_lt 1 (length bytes)) ≡ false) =
    or_parts (slice_index bytes 0 == 43) ((slice_index bytes 0 == 48) && nat_lt 1 (length bytes)) plain in
    let P : Result ℕ E → Type 0 = λ q. OkIff q (AllDigits 10 bytes × (0 < length bytes) × (digits_value 10 bytes < 2 ^ 32)) (digits_value 10 bytes) in
    let told : P (Ok n) = subst P is (parse_plain own 32 bytes r reads (eqb-false (get_or bytes 0 0) 43 parts.0)) in
    sym (decimal-digits_value own bytes told.0.0 told.0.1 (one_digit told.0.1 parts.1) (omega (arith, told.0.2))) ∙ ap decimal (sym told.1)
  where
    one_digit : 0 < length bytes → (((slice_index bytes 0 == 48) && nat_lt 1 (length bytes)) ≡ false) → get_or bytes 0 0 ≡ 48 → length bytes ≡ 1
    one_digit some h first =
        elim (and_cases (slice_index bytes 0 == 48) (nat_lt 1 (length bytes)) h) [
          | inl other ↦ absurd (eqb-false (get_or bytes 0 0) 48 other first)
          | inr short ↦ omega (arith, ltb-false 1 (length bytes) short)
        ]

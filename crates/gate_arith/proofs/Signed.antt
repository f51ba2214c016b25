-- Sums in two's complement: what the sign and the carries say.
use Rattle.std.proofs.Common.{◌≡◌, ℕ, suc, ◌+◌, ◌-◌, ◌*◌, ◌^◌, ◌<◌, Bool, true, false, not, List, [], ◌∷◌, ◌++◌, length, refl, sym, ap, ◌∙◌, arith, length-append, ℤ, pos, negsuc, ◌+ℤ◌, ◌-ℤ◌, ◌≤ℤ◌, ◌<ℤ◌}
use Rattle.std.specs.Prelude.{if◌then◌else◌}
use Rattle.std.proofs.lemmas.Int.{ints}
use Rattle.std.proofs.lemmas.List.{get_or_push}
use Rattle.std.proofs.lemmas.Bool.{lt-ltb, le-ltb}
use Rattle.std.proofs.Math.Nat.{pow-suc}
use Rattle.gate_arith.specs.Numbers.{bit, number, sign, signed, is_within, differ}
use Rattle.gate_arith.proofs.Ripple.{number-push}
use Rattle.gate_arith.proofs.Bits.{bit_le}

-- the last bit
sign_push : (low : List Bool) (t : Bool) → sign (low ++ t ∷ []) ≡ t
sign_push low t = get_or_push low t false (length (low ++ t ∷ []) - 1) (omega (arith, length-append low (t ∷ [])))

-- two equations of a signed number, by its sign
signed_by : (bits : List Bool) (t : Bool) (n m p : ℕ) → sign bits ≡ t → number bits ≡ n + p * bit t → length bits ≡ suc m → p ≡ 2 ^ m → n < p
    → signed bits ≡ pos n -ℤ pos (p * bit t)
signed_by bits true n m p is_sign is_number is_length power less =
    let whole : 2 ^ length bits ≡ p * 2 = ap (λ k. 2 ^ k) is_length ∙ pow-suc 2 m ∙ ap (λ q. q * 2) (sym power) in
    ap (λ b. if b then pos (number bits) -ℤ pos (2 ^ length bits) else pos (number bits)) is_sign
    ∙ ap (λ k. pos (number bits) -ℤ pos k) whole ∙ ap (λ k. pos k -ℤ pos (p * 2)) is_number ∙ omega (arith, ints)
signed_by bits false n m p is_sign is_number is_length power less =
    ap (λ b. if b then pos (number bits) -ℤ pos (2 ^ length bits) else pos (number bits)) is_sign
    ∙ ap (λ k. pos k) is_number ∙ omega (arith, ints)

-- the number is below 2 to the width
pub number_below : (bits : List Bool) → number bits < 2 ^ length bits
number_below [] = omega arith
number_below (b ∷ bits) = omega (arith, number_below bits, bit_le b, pow-suc 2 (length bits))

-- the sign counts down by its place
pub signed_push : (low : List Bool) (t : Bool) → signed (low ++ t ∷ []) ≡ pos (number low) -ℤ pos (2 ^ length low * bit t)
signed_push low t =
    signed_by (low ++ t ∷ []) t (number low) (length low) (2 ^ length low) (sign_push low t) (number-push low t)
    (length-append low (t ∷ []) ∙ omega arith) refl (number_below low)

-- within a width, by its ends
pub within_true : (w p : ℕ) (z : ℤ) → p ≡ 2 ^ (w - 1) → (pos 0 -ℤ pos p) ≤ℤ z → z <ℤ pos p → is_within w z ≡ true
within_true w p (pos n) is low high = lt-ltb n (2 ^ (w - 1)) (omega (arith, ints))
within_true w p (negsuc n) is low high = lt-ltb n (2 ^ (w - 1)) (omega (arith, ints))

pub within_high : (w p : ℕ) (z : ℤ) → p ≡ 2 ^ (w - 1) → pos p ≤ℤ z → is_within w z ≡ false
within_high w p (pos n) is high = le-ltb n (2 ^ (w - 1)) (omega (arith, ints))
within_high w p (negsuc n) is high = absurd (omega (arith, ints))

pub within_low : (w p : ℕ) (z : ℤ) → p ≡ 2 ^ (w - 1) → z <ℤ (pos 0 -ℤ pos p) → is_within w z ≡ false
within_low w p (pos n) is low = absurd (omega (arith, ints))
within_low w p (negsuc n) is low = le-ltb n (2 ^ (w - 1)) (omega (arith, ints))

-- the parts of a sum of two numbers whose signs count p, with the sums of the lower places and of the signs
pub record IsSplit (p n_a n_b n_s c0 : ℕ) (t_a t_b t_s c_in c_out : Bool) : Type 0 where
  pub low : n_s + p * bit c_in ≡ n_a + n_b + c0
  pub signs : bit t_s + 2 * bit c_out ≡ bit t_a + bit t_b + bit c_in
  pub small : n_s < p

-- the exact sum, and the number that the bits of the sum show
abbrev pub exact_sum : ℕ → ℕ → ℕ → ℕ → Bool → Bool → ℤ
exact_sum p n_a n_b c0 t_a t_b = (pos n_a -ℤ pos (p * bit t_a)) +ℤ (pos n_b -ℤ pos (p * bit t_b)) +ℤ pos c0

abbrev pub shown_sum : ℕ → ℕ → Bool → ℤ
shown_sum p n_s t_s = pos n_s -ℤ pos (p * bit t_s)

-- they differ by the carries into and out of the sign
sum_apart : (p n_a n_b n_s c0 x_a x_b x_s x_in x_out : ℕ) → n_s + p * x_in ≡ n_a + n_b + c0 → x_s + 2 * x_out ≡ x_a + x_b + x_in
    → ((pos n_a -ℤ pos (p * x_a)) +ℤ (pos n_b -ℤ pos (p * x_b)) +ℤ pos c0) +ℤ pos (p * 2 * x_out) ≡ (pos n_s -ℤ pos (p * x_s)) +ℤ pos (p * 2 * x_in)
sum_apart p n_a n_b n_s c0 x_a x_b x_s x_in x_out low signs =
    let scaled : p * (x_s + 2 * x_out) ≡ p * (x_a + x_b + x_in) = ap (λ n. p * n) signs in
    omega (arith, ints)

-- so the sum lies within the width exactly where the carries agree, and then the bits show it
shown_low : (p n_s : ℕ) (t_s : Bool) → (pos 0 -ℤ pos p) ≤ℤ shown_sum p n_s t_s
shown_low p n_s true = omega (arith, ints)
shown_low p n_s false = omega (arith, ints)

shown_high : (p n_s : ℕ) (t_s : Bool) → n_s < p → shown_sum p n_s t_s <ℤ pos p
shown_high p n_s true less = omega (arith, ints)
shown_high p n_s false less = omega (arith, ints)

pub sum_same : (p n_a n_b n_s c0 : ℕ) (t_a t_b t_s c : Bool) → IsSplit p n_a n_b n_s c0 t_a t_b t_s c c → shown_sum p n_s t_s ≡ exact_sum p n_a n_b c0 t_a t_b
sum_same p n_a n_b n_s c0 t_a t_b t_s c split =
    let apart = sum_apart p n_a n_b n_s c0 (bit t_a) (bit t_b) (bit t_s) (bit c) (bit c) split.low split.signs in
    omega (arith, ints)

pub sum_within : (w p n_a n_b n_s c0 : ℕ) (t_a t_b t_s c_in c_out : Bool) → p ≡ 2 ^ (w - 1) → IsSplit p n_a n_b n_s c0 t_a t_b t_s c_in c_out
    → is_within w (exact_sum p n_a n_b c0 t_a t_b) ≡ not (differ c_in c_out)
sum_within w p n_a n_b n_s c0 t_a t_b t_s true true is split =
    let same = sum_same p n_a n_b n_s c0 t_a t_b t_s true split in
    ap (is_within w) (sym same) ∙ within_true w p (shown_sum p n_s t_s) is (shown_low p n_s t_s) (shown_high p n_s t_s split.small)
sum_within w p n_a n_b n_s c0 t_a t_b t_s false false is split =
    let same = sum_same p n_a n_b n_s c0 t_a t_b t_s false split in
    ap (is_within w) (sym same) ∙ within_true w p (shown_sum p n_s t_s) is (shown_low p n_s t_s) (shown_high p n_s t_s split.small)
sum_within w p n_a n_b n_s c0 t_a t_b t_s true false is split =
    let apart = sum_apart p n_a n_b n_s c0 (bit t_a) (bit t_b) (bit t_s) 1 0 split.low split.signs in
    let low = shown_low p n_s t_s in
    within_high w p (exact_sum p n_a n_b c0 t_a t_b) is (omega (arith, ints))
sum_within w p n_a n_b n_s c0 t_a t_b t_s false true is split =
    let apart = sum_apart p n_a n_b n_s c0 (bit t_a) (bit t_b) (bit t_s) 0 1 split.low split.signs in
    let high = shown_high p n_s t_s split.small in
    within_low w p (exact_sum p n_a n_b c0 t_a t_b) is (omega (arith, ints))

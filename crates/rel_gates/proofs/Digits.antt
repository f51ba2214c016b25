-- The bits of numbers: each number within a width has as many bits that show it.
use Rattle.std.proofs.Common.{◌≡◌, ℕ, zero, suc, ◌+◌, ◌-◌, ◌*◌, ◌/◌, ◌%◌, ◌^◌, ◌<◌, Bool, true, false, [], ◌∷◌, ◌++◌, length, map, refl, subst, ap, ◌∙◌, arith, add-one, ℤ, pos, negsuc, ◌-ℤ◌}
use Rattle.std.specs.Prelude.{◌==◌, nat_lt, if◌then◌else◌}
use Rattle.std.specs.List.{range_with_len}
use Rattle.std.proofs.Math.Nat.{pow-suc}
use Rattle.std.proofs.lemmas.Bool.{ltb-true, eq-eqb, ne_eqb}
use Rattle.std.proofs.lemmas.Int.{ints}
use Rattle.std.proofs.lemmas.List.{map-append}
use Rattle.std.proofs.lemmas.List.FromFn.{length-map-range_with_len}
use Rattle.gate_arith.specs.Numbers.{bit, number, signed}
use Rattle.gate_arith.proofs.Signed.{signed_push}
use Rattle.heap_core.specs.Outcomes.{in_bits}
use Rattle.gate_sets.proofs.Places.{numbers_last}
use Rattle.rel_gates.specs.Constants.{digit}
use Rattle.rel_gates.specs.Counted.{low_part}

pub shifted : (f : ℕ → Bool) (a n : ℕ) → map f (range_with_len (a + 1) n) ≡ map (λ i. f (i + 1)) (range_with_len a n)
shifted f a zero = refl
shifted f a (suc n) = ap (λ bs. f (a + 1) ∷ bs) (shifted f (a + 1) n)

-- tests that agree at the numbers of a range
pub map_alike : (f g : ℕ → Bool) (a n : ℕ) → ((i : ℕ) → i < a + n → f i ≡ g i) → map f (range_with_len a n) ≡ map g (range_with_len a n)
map_alike f g a zero same = refl
map_alike f g a (suc n) same = ap (λ b. b ∷ map f (range_with_len (a + 1) n)) (same a (omega arith)) ∙ ap (λ bs. g a ∷ bs) (map_alike f g (a + 1) n (λ i below. same i (omega arith)))

remainder : (r : ℕ) → r < 2 → bit (r == 1) ≡ r
remainder zero less = refl
remainder (suc zero) less = refl
remainder (suc (suc r)) less = absurd (omega (arith, less))

pub number_of_digits : (width n : ℕ) → n < 2 ^ width → number (map (digit n) (range_with_len 0 width)) ≡ n
number_of_digits zero n less = omega (arith, less)
number_of_digits (suc width) n less =
    let rest : map (digit n) (range_with_len 1 width) ≡ map (digit (n / 2)) (range_with_len 0 width) =
    shifted (digit n) 0 width ∙ map_alike (λ i. digit n (i + 1)) (digit (n / 2)) 0 width (λ i below. ap (digit n) (add-one i)) in
    let half : n / 2 < 2 ^ width = omega (arith, less, pow-suc 2 width) in
    let low : bit (n % 2 == 1) ≡ n % 2 = remainder (n % 2) (omega arith) in
    ap (λ bs. bit (n % 2 == 1) + 2 * number bs) rest ∙ ap (λ k. bit (n % 2 == 1) + 2 * k) (number_of_digits width (n / 2) half) ∙ omega (arith, low)

-- the sign
abbrev pub is_negative : ℤ → Bool
is_negative (pos n) = false
is_negative (negsuc k) = true

-- the bit at a place of a number in two's complement, whose sign has place `top`
abbrev pub signed_digit : ℕ → ℤ → ℕ → Bool
signed_digit top z i = if i == top then is_negative z else digit (low_part top z) i

within : (n w : ℕ) → nat_lt n (2 ^ (w - 1)) ≡ true → (top : ℕ) → w ≡ suc top → n < 2 ^ top
within n w is top wide =
    let less : w - 1 ≡ top = omega (arith, wide) in
    subst (λ t. n < 2 ^ t) less (ltb-true n (2 ^ (w - 1)) is)

pub low_below : (w top : ℕ) (z : ℤ) → in_bits w z ≡ true → w ≡ suc top → low_part top z < 2 ^ top
low_below w top (pos n) is wide = within n w is top wide
low_below w top (negsuc k) is wide = (let less = within k w is top wide in omega (arith, less))

pub parts_of : (w top : ℕ) (z : ℤ) → in_bits w z ≡ true → w ≡ suc top → (pos (low_part top z) -ℤ pos (2 ^ top * bit (is_negative z))) ≡ z
parts_of w top (pos n) is wide = omega (arith, ints)
parts_of w top (negsuc k) is wide = (let less = within k w is top wide in omega (arith, ints, less))

pub signed_of_digits : (w top : ℕ) (z : ℤ) → in_bits w z ≡ true → w ≡ suc top → signed (map (signed_digit top z) (range_with_len 0 w)) ≡ z
signed_of_digits w top z is wide =
    let low = map (digit (low_part top z)) (range_with_len 0 top) in
    let last : w ≡ top + 1 = omega (arith, wide) in
    let lower : map (signed_digit top z) (range_with_len 0 top) ≡ low =
    map_alike (signed_digit top z) (digit (low_part top z)) 0 top (λ i below. ap (λ b. if b then is_negative z else digit (low_part top z) i) (ne_eqb i top (λ same.
    absurd (omega (arith, below, same))))) in
    let top_bit : signed_digit top z top ≡ is_negative z = ap (λ b. if b then is_negative z else digit (low_part top z) top) (eq-eqb top top refl) in
    ap (λ n. signed (map (signed_digit top z) (range_with_len 0 n))) last
    ∙ ap (λ ns. signed (map (signed_digit top z) ns)) (numbers_last top)
    ∙ ap signed (map-append (signed_digit top z) (range_with_len 0 top) (top ∷ []))
    ∙ ap (λ bs. signed (bs ++ signed_digit top z top ∷ [])) lower ∙ ap (λ b. signed (low ++ b ∷ [])) top_bit
    ∙ signed_push low (is_negative z)
    ∙ ap (λ n. pos n -ℤ pos (2 ^ length low * bit (is_negative z))) (number_of_digits top (low_part top z) (low_below w top z is wide))
    ∙ ap (λ n. pos (low_part top z) -ℤ pos (2 ^ n * bit (is_negative z))) (length-map-range_with_len (digit (low_part top z)) 0 top)
    ∙ parts_of w top z is wide

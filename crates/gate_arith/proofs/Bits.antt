-- The sums of two and of three bits.
use Rattle.std.proofs.Common.{◌≡◌, ◌+◌, ◌*◌, Bool, true, false, ◌&&◌, ◌||◌, refl, ◌≤◌, arith}
use Rattle.gate_arith.specs.Numbers.{bit, differ}

pub half_sum : (a b : Bool) → bit (differ a b) + 2 * bit (a && b) ≡ bit a + bit b
half_sum true true = refl
half_sum true false = refl
half_sum false true = refl
half_sum false false = refl

pub bit_le : (b : Bool) → bit b ≤ 1
bit_le true = omega arith
bit_le false = omega arith

pub full_sum : (a b c s t first second : Bool) → bit s + 2 * bit first ≡ bit a + bit b → bit t + 2 * bit second ≡ bit s + bit c
    → bit t + 2 * bit (first || second) ≡ bit a + bit b + bit c
full_sum a b c s t false false h k = omega arith
full_sum a b c s t false true h k = omega arith
full_sum a b c s t true false h k = omega arith
full_sum a b c s t true true h k = absurd (omega (arith, bit_le a, bit_le b, bit_le c))

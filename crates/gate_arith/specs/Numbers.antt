-- Numbers in two's complement, as lists of bits with the lowest bit first.
use Rattle.std.specs.Prelude.{ℕ, ◌+◌, ◌-◌, ◌*◌, ◌^◌, nat_lt, ℤ, pos, negsuc, ◌-ℤ◌, Bool, true, false, List, [], ◌∷◌, length, if◌then◌else◌, slice_index_or, not}

abbrev pub bit : Bool → ℕ
bit true = 1
bit false = 0

-- the number of bits that all count up
abbrev pub number : List Bool → ℕ
number [] = 0
number (b ∷ bs) = bit b + 2 * number bs

-- the last bit
abbrev pub sign : List Bool → Bool
sign bits = slice_index_or bits (length bits - 1) false

-- the number in two's complement: where the sign is set, it is lower by 2 to the width
abbrev pub signed : List Bool → ℤ
signed bits = if sign bits then pos (number bits) -ℤ pos (2 ^ length bits) else pos (number bits)

-- a whole number lies in two's complement of this width, from -2^(width-1) to 2^(width-1) - 1
abbrev pub is_within : ℕ → ℤ → Bool
is_within width (pos n) = nat_lt n (2 ^ (width - 1))
is_within width (negsuc n) = nat_lt n (2 ^ (width - 1))

-- how many bits are true
abbrev pub how_many : List Bool → ℕ
how_many [] = 0
how_many (b ∷ bs) = bit b + how_many bs

-- two truth values are not the same
abbrev pub differ : Bool → Bool → Bool
differ true b = not b
differ false b = b

-- Sets of numbers as words of 64 bits. (This project's own.)
use Rattle.std.specs.Prelude.{ℕ, ◌+◌, ◌-◌, ◌*◌, ◌/◌, ◌%◌, ◌^◌, ◌≤◌, min, List, map, zip, replicate, slice_index, slice_set, bit_and, bit_or}
use Rattle.std.specs.List.{range_with_len}
use Rattle.std.specs.Int.{bit_at, bit_not, w64}

-- 1 where the number t is in the set, else 0: it is bit t mod 64 of word t / 64
unfoldable pub has : List ℕ → ℕ → ℕ
has set t = bit_at (slice_index set (t / 64)) (t % 64)

-- each number of the first set is in the second
abbrev pub IsWithin : List ℕ → List ℕ → Type 0
IsWithin a b = (t : ℕ) → has a t ≤ has b t

-- the word with this bit alone
abbrev pub one_bit : ℕ → ℕ
one_bit j = 1 * 2 ^ j % 2 ^ 64

-- word i takes the bits, besides its own
abbrev pub with_bits : List ℕ → ℕ → ℕ → List ℕ
with_bits set i mask = slice_set set i (bit_or (slice_index set i) mask)

-- the set with the number t
abbrev pub gain : List ℕ → ℕ → List ℕ
gain set t = with_bits set (t / 64) (one_bit (t % 64))

-- the set without the number t
abbrev pub lose : List ℕ → ℕ → List ℕ
lose set t = slice_set set (t / 64) (bit_and (slice_index set (t / 64)) (bit_not w64 (one_bit (t % 64))))

-- word i of the second set is read into the first
abbrev pub read_word : List ℕ → List ℕ → ℕ → List ℕ
read_word set other i = slice_set set i (slice_index other i)

-- what is in both sets, and what is in either
abbrev pub meet : List ℕ → List ℕ → List ℕ
meet a b = map (λ x. bit_and x.0 x.1) (zip a b)

abbrev pub union : List ℕ → List ℕ → List ℕ
union a b = map (λ x. bit_or x.0 x.1) (zip a b)

-- how many words the numbers below a count have
abbrev pub words_for : ℕ → ℕ
words_for count = (count + 63) / 64

-- the numbers 64 i to 64 i + 63, as far as they are below the count
abbrev pub first_bits : ℕ → ℕ → ℕ
first_bits count i = 2 ^ min 64 (count - 64 * i) - 1

-- all numbers below a count
abbrev pub all_below : ℕ → List ℕ
all_below count = map (first_bits count) (range_with_len 0 (words_for count))

-- no number, in so many words
abbrev pub none_of : ℕ → List ℕ
none_of words = replicate words 0

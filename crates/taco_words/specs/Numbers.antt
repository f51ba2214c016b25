-- The numbers that words write.
use Rattle.std.specs.Prelude.{ℕ, ◌-◌, ◌==◌, ◌&&◌, nat_lt, not, List, [], ◌∷◌, length, Option, Some, None, bytes_eq, decimal, if◌then◌else◌}
use Rattle.std.specs.List.{slice_split}
use Rattle.std.specs.Str.Parse.{digits_value}

-- the number that a word writes: the word is its decimal text, without leading zeros or a sign, and it is at most this
abbrev pub number_up_to : ℕ → List ℕ → Option ℕ
number_up_to most word = if bytes_eq word (decimal (digits_value 10 word)) && not (nat_lt most (digits_value 10 word)) then Some (digits_value 10 word) else None

-- a number that is not below this
abbrev pub at_least : ℕ → Option ℕ → Option ℕ
at_least least None = None
at_least least (Some n) = if nat_lt n least then None else Some n

-- the number of this range that a word writes, and where no word is given the usual number
abbrev pub number_in : ℕ → ℕ → ℕ → Option (List ℕ) → Option ℕ
number_in least most usual None = Some usual
number_in least most usual (Some word) = at_least least (number_up_to most word)

abbrev pub with_first : Option ℕ → Option (List ℕ) → Option (List ℕ)
with_first (Some n) (Some ns) = Some (n ∷ ns)
with_first _ _ = None

-- the numbers of at most this that all of these words write
abbrev pub numbers_up_to : ℕ → List (List ℕ) → Option (List ℕ)
numbers_up_to most [] = Some []
numbers_up_to most (word ∷ words) = with_first (number_up_to most word) (numbers_up_to most words)

-- the pieces between the commas
abbrev pub pieces : List ℕ → List (List ℕ)
pieces = slice_split (λ b. b == 44)

-- the most numbers of a list
abbrev pub most_entries : ℕ
most_entries = 4096

-- the numbers below this that a word writes, joined by commas
abbrev pub list_below : ℕ → List ℕ → Option (List ℕ)
list_below bound word = if nat_lt most_entries (length (pieces word)) then None else numbers_up_to (bound - 1) (pieces word)

-- The bits of numbers. (This project's own.)
use Rattle.std.specs.Prelude.{ℕ, zero, suc, ◌/◌, ◌%◌, ◌==◌, Bool}

-- the bit at a place of a number
abbrev pub digit : ℕ → ℕ → Bool
digit n zero = n % 2 == 1
digit n (suc i) = digit (n / 2) i

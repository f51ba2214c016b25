-- Counts of faults, which never fall.
use Rattle.std.specs.Prelude.{ℕ, ◌+◌, ◌-◌, ◌^◌, ◌≤◌, min}

-- the greatest count, where a count stands still
abbrev pub greatest : ℕ
greatest = 2 ^ 64 - 1

-- a count with one fault more
abbrev pub one_more : ℕ → ℕ
one_more count = min (count + 1) greatest

-- a count rose: it is greater now, or stands at the greatest
abbrev pub Rose : ℕ → ℕ → Type 0
Rose before now = one_more before ≤ now

-- Literals as numbers: the literal of the variable v is 2 v, its negation 2 v + 1. Variables count from 1.
use Rattle.std.specs.Prelude.{ℕ, ◌+◌, ◌-◌, ◌/◌, ◌%◌, ◌<◌, ◌≤◌, ◌==◌, Bool, if◌then◌else◌}

-- whether a literal is the negation of its variable
abbrev pub is_negative : ℕ → Bool
is_negative lit = lit % 2 == 1

-- the literal of the same variable with the other sign
abbrev pub negated : ℕ → ℕ
negated lit = if lit % 2 == 0 then lit + 1 else lit - 1

-- a literal over the variables 1 to vars
abbrev pub IsOver : ℕ → ℕ → Type 0
IsOver vars lit = (0 < lit / 2) × (lit / 2 ≤ vars)

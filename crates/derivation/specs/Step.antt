-- A line of a log, as contracts see it.
use Rattle.std.specs.Prelude.{ℕ, ◌^◌, ◌<◌, List, All}

-- the literals of its clause, and the numbers of the clauses that it names as hints
pub record Step : Type 0 where
  pub clause : List ℕ
  pub hints : List ℕ

-- Each hint is a number of 32 bits.
abbrev pub HintsFit : Step → Type 0
HintsFit step = All (λ hint. hint < 2 ^ 32) step.hints

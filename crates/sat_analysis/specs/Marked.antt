-- Marked literals.
use Rattle.std.specs.Prelude.{ℕ, List}

-- marks as contracts see them: below which number a literal can be marked, and which are, in the order in which they were
pub record Marked : Type 0 where
  pub places : ℕ
  pub lits : List ℕ

-- A formula in conjunctive normal form, as contracts see it.
use Rattle.std.specs.Prelude.{ℕ, List}

-- how many variables there are, and the clauses in order, each as the numbers of its literals
pub record Clauses : Type 0 where
  pub vars : ℕ
  pub clauses : List (List ℕ)

-- Clauses one behind the other in one list, with the place at which each ends.
use Rattle.std.specs.Prelude.{◌≡◌, ℕ, ◌-◌, ◌^◌, ◌<◌, ◌≤◌, List, [], ◌∷◌, All, length, take, drop}
use Rattle.cnf_core.specs.Literal.{IsOver}

-- the clauses: each runs from the end of the one before it to its own end
abbrev pub cut : ℕ → List ℕ → List ℕ → List (List ℕ)
cut from [] lits = []
cut from (end ∷ ends) lits = take (end - from) lits ∷ cut end ends (drop (end - from) lits)

-- The ends rise, and the last is the end of the list.
abbrev pub AreEnds : ℕ → List ℕ → List ℕ → Type 0
AreEnds from [] lits = lits ≡ []
AreEnds from (end ∷ ends) lits = (from ≤ end) × (end - from ≤ length lits) × AreEnds end ends (drop (end - from) lits)

-- Variables and clauses can be counted in 32 bits, and every literal is over the variables.
pub record IsArena (vars : ℕ) (ends lits : List ℕ) : Type 0 where
  pub small : vars < 2 ^ 31
  pub few : length ends < 2 ^ 32
  pub rising : AreEnds 0 ends lits
  pub over : All (IsOver vars) lits

-- What an answer of the search says.
use Rattle.std.specs.Prelude.{◌≡◌, ℕ, ◌+◌, ◌-◌, ◌*◌, ◌^◌, ◌<◌, ◌≤◌, ◌==◌, not, List, All, length, filter}
use Rattle.cnf_core.specs.Clauses.{Clauses}
use Rattle.cnf_core.specs.Truth.{assigned, Satisfies, IsUnsatisfiable}
use Rattle.derivation.specs.LogText.{IsLine}
use Rattle.derivation.specs.Logs.{Valid, Refutes, Fresh, Spends}
use Rattle.derivation.specs.Step.{Step}
use Rattle.sat_solver.specs.Steps.{IsSearch}
use Rattle.sat_solver.specs.declared.answer.SatAnswer.{SatAnswer}
use Rattle.sat_solver.specs.declared.answer.SatAnswer.TheVariants.{Satisfied, Refuted, Spent}
use Rattle.sat_solver.specs.declared.search.Search.{Search}

-- The values satisfy the formula; or the log refutes it, so that no values do; or the budget is spent.
abbrev pub IsRight : Clauses → List Step → ℕ → SatAnswer → Type 0
IsRight cnf log budget (Satisfied values) = Satisfies (assigned values.items) cnf.clauses × (length values.items ≡ cnf.vars)
IsRight cnf log budget Refuted = Refutes cnf.clauses log × IsUnsatisfiable cnf.clauses
IsRight cnf log budget Spent = Spends cnf log budget

-- the lines that are not empty
abbrev pub learnt_lines : List Step → List Step
learnt_lines log = filter (λ step. not (length step.clause == 0)) log

-- What the log of each answer has: it is valid and fresh, a text can hold its lines, whose variables rise and are the
-- formula's, and with a budget it has at most that many lines that are not empty.
pub record IsKept (cnf : Clauses) (log : List Step) (budget : ℕ) : Type 0 where
  pub valid : Valid cnf.clauses log
  pub fresh : Fresh cnf.clauses log
  pub lines : All (IsLine cnf.vars) log
  pub few : 0 < budget → length (learnt_lines log) ≤ budget

pub record IsAnswer (cnf : Clauses) (log : List Step) (budget : ℕ) (answer : SatAnswer) : Type 0 where
  pub right : IsRight cnf log budget answer
  pub kept : IsKept cnf log budget

-- With a budget there are at most that many lines.
abbrev pub IsWithin : ℕ → List Step → Type 0
IsWithin budget log = 0 < budget → length log ≤ budget

-- how much is left to do: each turn learns a line, of which a fresh log over v variables has at most 3 to the v, or opens a level
unfoldable pub rank : ℕ → ℕ → ℕ → ℕ
rank vars lines level = (3 ^ vars - lines) * (vars + 1) + (vars - level)

abbrev pub rank_of : Search → ℕ
rank_of s = rank s.cnf.vars (length s.log) s.trail.level

-- The search goes on, and less is left.
pub record GoesOn (budget : ℕ) (old new : Search) : Type 0 where
  pub search : IsSearch new
  pub within : IsWithin budget new.log
  pub falls : rank_of new < rank_of old

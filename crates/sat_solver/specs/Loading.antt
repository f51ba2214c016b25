-- A search that takes up the clauses of its formula.
use Rattle.std.specs.Prelude.{◌≡◌, ℕ, List, [], All, take}
use Rattle.cnf_core.specs.Clauses.{Clauses}
use Rattle.cnf_core.specs.Literal.{IsOver}
use Rattle.sat_watch.specs.Literals.{has, EachOnce}
use Rattle.sat_solver.specs.Steps.{IsBuilt}
use Rattle.sat_solver.specs.declared.search.Search.{Search}

-- The clauses before a place are held; nothing is propagated or learnt yet.
pub record IsLoading (place : ℕ) (s : Search) : Type 0 where
  pub built : IsBuilt s (take place s.cnf.clauses)
  pub over : All (λ clause. All (IsOver s.cnf.vars) clause) (take place s.cnf.clauses)
  pub log : s.log ≡ []
  pub root : s.trail.level ≡ 0
  pub start : s.trail.passed ≡ 0

-- The literals are those of the clause, each once.
pub record AreOnce (clause lits : List ℕ) : Type 0 where
  pub same : (lit : ℕ) → has lits lit ≡ has clause lit
  pub once : EachOnce lits

-- what a solver is asked: the formula, and how many lines it may learn, or 0 for any number
pub record Asked : Type 0 where
  pub cnf : Clauses
  pub budget : ℕ

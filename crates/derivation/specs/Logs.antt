-- Logs: lines that follow one after the other from the clauses of a formula.
use Rattle.std.specs.Prelude.{◌≡◌, ◌≢◌, ℕ, ◌+◌, ◌-◌, ◌<◌, ◌==◌, Bool, true, false, not, ◌&&◌, ◌||◌, List, [], ◌∷◌, ◌++◌, All, length, map, slice_get, IsTrue}
use Rattle.std.specs.List.{list_any, list_all}
use Rattle.std.specs.Option.{option_map_or}
use Rattle.cnf_core.specs.Clauses.{Clauses}
use Rattle.cnf_core.specs.Literal.{IsOver}
use Rattle.derivation.specs.Step.{Step}
use Rattle.derivation.specs.declared.fault.CheckFault.{CheckFault}
use Rattle.derivation.specs.declared.fault.CheckFault.TheVariants.{BadLine, NoMemory}
use Rattle.cnf_core.specs.Trues.{is_true}
use Rattle.derivation.specs.Propagation.{follows, Follows}

-- the clauses of lines
abbrev pub clauses_of : List Step → List (List ℕ)
clauses_of steps = map (λ step. step.clause) steps

-- whether each line passes the test over the clauses known before it: the formula's and those of earlier lines
abbrev pub each_line : (List (List ℕ) → Step → Bool) → List (List ℕ) → List Step → Bool
each_line test known [] = true
each_line test known (step ∷ steps) = test known step && each_line test (known ++ step.clause ∷ []) steps

-- whether each line follows from the clauses known before it
abbrev pub valid : List (List ℕ) → List Step → Bool
valid known steps = each_line follows known steps

-- Each line follows from the clauses and the lines before it.
abbrev pub Valid : List (List ℕ) → List Step → Type 0
Valid clauses steps = IsTrue (valid clauses steps)

-- whether there is a last line, and it is empty
abbrev pub ends_empty : List Step → Bool
ends_empty steps = option_map_or (λ step. length step.clause == 0) (slice_get steps (length steps - 1)) false

-- The log is valid and ends in the empty clause.
abbrev pub Refutes : List (List ℕ) → List Step → Type 0
Refutes clauses steps = Valid clauses steps × IsTrue (ends_empty steps)

-- Line n, counted from 1, is the first that does not follow.
pub record IsFirstBad (clauses : List (List ℕ)) (steps : List Step) (n : ℕ) : Type 0 where
  pub front : List Step
  pub line : Step
  pub rest : List Step
  pub parts : steps ≡ front ++ line ∷ rest
  pub place : n ≡ length front + 1
  pub before : Valid clauses front
  pub bad : Follows (clauses ++ clauses_of front) line → ⊥

-- What a refused log has: its first bad line. Want of memory says nothing.
abbrev pub Blames : List (List ℕ) → List Step → CheckFault → Type 0
Blames clauses steps (BadLine n) = IsFirstBad clauses steps n
Blames clauses steps NoMemory = Unit {0}

-- whether a line contains all literals of a clause
abbrev pub contains_clause : List ℕ → List ℕ → Bool
contains_clause line clause = list_all (is_true line) clause

-- whether a line is empty, or contains all literals of no known clause
abbrev pub is_new : List (List ℕ) → Step → Bool
is_new known step = (length step.clause == 0) || not (list_any (contains_clause step.clause) known)

-- whether no line but an empty one contains all literals of a clause known before it
abbrev pub fresh : List (List ℕ) → List Step → Bool
fresh known steps = each_line is_new known steps

-- No line but an empty one contains all literals of a clause of the formula or of an earlier line.
abbrev pub Fresh : List (List ℕ) → List Step → Type 0
Fresh clauses steps = IsTrue (fresh clauses steps)

-- A search within the budget was spent: its log is all that it derived, and no hints refute the formula after it.
pub record Spends (cnf : Clauses) (steps : List Step) (budget : ℕ) : Type 0 where
  pub some : 0 < budget
  pub valid : Valid cnf.clauses steps
  pub fresh : Fresh cnf.clauses steps
  pub whole : length steps ≡ budget
  pub none_empty : All (λ step. step.clause ≢ []) steps
  pub over : All (λ step. All (IsOver cnf.vars) step.clause) steps
  pub stuck : (hints : List ℕ) → Follows (cnf.clauses ++ clauses_of steps) (record { clause = []; hints = hints }) → ⊥

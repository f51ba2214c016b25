-- Watch lists as links by index. A literal's list begins at the place of its number; a watch has a place of its own
-- behind all literals. The link of a place is the next watch, and 0 at the end.
use Rattle.std.specs.Prelude.{◌≡◌, ℕ, ◌+◌, ◌*◌, ◌<◌, ◌≤◌, ◌^◌, ◌↔◌, List, [], ◌∷◌, true, All, length, slice_index, slice_index_or}
use Rattle.cnf_core.specs.Clauses.{Clauses}
use Rattle.cnf_core.specs.Literal.{IsOver}
use Rattle.sat_watch.specs.Literals.{has, EachOnce}

-- From a place the links lead over the watches to the end.
abbrev pub Chain : List ℕ → ℕ → List ℕ → Type 0
Chain links at [] = slice_index links at ≡ 0
Chain links at (watch ∷ more) = (slice_index links at ≡ watch) × Chain links watch more

-- From a place the links lead over the watches, and the last of them, or the place itself, is to.
abbrev pub Walk : List ℕ → ℕ → List ℕ → ℕ → Type 0
Walk links at [] to = at ≡ to
Walk links at (watch ∷ more) to = (slice_index links at ≡ watch) × Walk links watch more to

-- The list of a literal, read along its links, holds exactly the watches that are for it, each once.
pub record IsThread (links watched : List ℕ) (lit : ℕ) : Type 0 where
  pub list : List ℕ
  pub read : Chain links lit list
  pub once : EachOnce list
  pub exact : (watch : ℕ) → (has list watch ≡ true) ↔ (slice_index watched watch ≡ lit)

-- So are the lists of all literals below a number.
abbrev pub Threaded : ℕ → List ℕ → List ℕ → Type 0
Threaded literals links watched = (lit : ℕ) → 0 < lit → lit < literals → IsThread links watched lit

-- Two literals at least, none of them twice, over the variables.
pub record CanWatch (vars : ℕ) (clause : List ℕ) : Type 0 where
  pub over : All (IsOver vars) clause
  pub two : 2 ≤ length clause
  pub once : EachOnce clause

-- The links and the watched literals belong to the clauses.
pub record IsWatches (cnf : Clauses) (links watched : List ℕ) : Type 0 where
  pub small : cnf.vars + length cnf.clauses < 2 ^ 31
  pub linked : length links ≡ 2 * (cnf.vars + 1 + length cnf.clauses)
  pub paired : length watched ≡ length links
  pub heads : (place : ℕ) → place < 2 * (cnf.vars + 1) → slice_index watched place ≡ 0
  pub over : (place : ℕ) → slice_index watched place < 2 * (cnf.vars + 1)
  pub threaded : Threaded (2 * (cnf.vars + 1)) links watched
  pub clauses : (clause : ℕ) → clause < length cnf.clauses → CanWatch cnf.vars (slice_index_or cnf.clauses clause [])

-- A walk over the watches of a literal that became false.
use Rattle.std.specs.Prelude.{◌≡◌, ◌≢◌, ℕ, ◌<◌, ◌==◌, zero, suc, List, [], ◌∷◌, ◌++◌, true, false, length, slice_index, slice_index_or, if◌then◌else◌}
use Rattle.cnf_core.specs.Clauses.{Clauses}
use Rattle.cnf_core.specs.Literal.{negated}
use Rattle.cnf_core.specs.Trues.{is_true}
use Rattle.sat_watch.specs.Literals.{has}
use Rattle.sat_watch.specs.Trail.{TrailState, literals, IsSound}
use Rattle.sat_watch.specs.Threads.{Chain, Walk, IsWatches}
use Rattle.sat_watch.specs.Watching.{WatchState, twin, clause_of, Right}
use Rattle.sat_watch.specs.declared.watches.propagate.Finding.{Finding}
use Rattle.sat_watch.specs.declared.watches.propagate.Finding.TheVariants.{Stays, Moves, Conflict}
use Rattle.sat_watch.specs.Propagation.{IsFalse, Grows}

-- the watches as contracts see them
abbrev pub state : Clauses → List ℕ → WatchState
state cnf watched = record { vars = cnf.vars; clauses = cnf.clauses; watched = watched }

-- what is read along the links from a place, in at most so many steps
abbrev pub read : List ℕ → ℕ → ℕ → List ℕ
read links zero at = []
read links (suc steps) at = if slice_index links at == 0 then [] else slice_index links at ∷ read links steps (slice_index links at)

-- The list of the literal is gone through up to a place: the watches in front have a true twin, the rest is to come.
pub record IsVisit (cnf : Clauses) (links watched : List ℕ) (start now : TrailState) (lit at : ℕ) : Type 0 where
  pub whole : IsWatches cnf links watched
  pub right : Right (state cnf watched) now
  pub sound : IsSound now
  pub grown : Grows cnf.clauses start now
  pub passed : now.passed ≡ start.passed
  pub vars : now.vars ≡ cnf.vars
  pub within : now.passed < length now.entries
  pub next : slice_index (literals now.entries) now.passed ≡ negated lit
  pub front : List ℕ
  pub rest : List ℕ
  pub walked : Walk links lit front at
  pub left : Chain links at rest
  pub ends : has (front ++ rest) 0 ≡ false
  pub twins : (watch : ℕ) → has front watch ≡ true → is_true (literals now.entries) (slice_index watched (twin watch)) ≡ true

-- What a watch of a clause comes to: it stays, where its twin is true then; or it can move to a literal of the clause
-- that is not false; or all literals of the clause are false.
abbrev pub Finds : Clauses → List ℕ → ℕ → TrailState → TrailState → Finding → Type 0
Finds cnf watched at old new Stays = Grows cnf.clauses old new × (is_true (literals new.entries) (slice_index watched (twin at)) ≡ true)
Finds cnf watched at old new (Moves lit) = (new ≡ old) × (has (clause_of (state cnf watched) at) lit ≡ true)
    × (lit ≢ slice_index watched (twin at)) × (is_true (literals old.entries) (negated lit) ≡ false)
Finds cnf watched at old new (Conflict clause) = (new ≡ old) × (clause < length cnf.clauses) × IsFalse (literals old.entries) (slice_index_or cnf.clauses clause [])

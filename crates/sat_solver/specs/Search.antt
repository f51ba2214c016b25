-- What a search keeps: its clauses belong to the formula and the log, and before each decision no clause was unit or false.
use Rattle.std.specs.Prelude.{◌≡◌, ◌≢◌, ℕ, ◌+◌, ◌-◌, ◌*◌, ◌<◌, ◌⊎◌, ◌||◌, Bool, true, false, List, [], ◌++◌, All, length, slice_index_or}
use Rattle.cnf_core.specs.Clauses.{Clauses}
use Rattle.derivation.specs.LogText.{IsLine}
use Rattle.derivation.specs.Logs.{clauses_of, Valid, Fresh}
use Rattle.derivation.specs.Step.{Step}
use Rattle.cnf_core.specs.Trues.{is_true}
use Rattle.sat_watch.specs.Literals.{has}
use Rattle.sat_watch.specs.Propagation.{IsQuiet}
use Rattle.sat_watch.specs.Trail.{TrailState, literals, up_to}
use Rattle.sat_watch.specs.Watching.{WatchState, Right}
use Rattle.sat_watch.specs.declared.trail.Entry.{Entry}
use Rattle.sat_analysis.specs.Noted.{IsNoted}
use Rattle.sat_analysis.specs.declared.notes.Notes.{Notes}

-- the clauses known so far: the formula's, and those of the lines
abbrev pub known_by : Clauses → List Step → List (List ℕ)
known_by cnf log = cnf.clauses ++ clauses_of log

-- A log of the search: it follows, it is fresh, no line is empty, and a text over the variables can hold the lines.
pub record IsLogged (cnf : Clauses) (log : List Step) : Type 0 where
  pub valid : Valid cnf.clauses log
  pub fresh : Fresh cnf.clauses log
  pub none_empty : All (λ step. step.clause ≢ []) log
  pub lines : All (IsLine cnf.vars) log

-- A clause with the same literals is watched.
pub record IsWatchedAs (clauses : List (List ℕ)) (clause : List ℕ) : Type 0 where
  pub place : ℕ
  pub within : place < length clauses
  pub same : (lit : ℕ) → has (slice_index_or clauses place []) lit ≡ has clause lit

-- It is one literal, which is true at level 0.
pub record IsRootOf (entries : List Entry) (clause : List ℕ) : Type 0 where
  pub lit : ℕ
  pub inside : has clause lit ≡ true
  pub only : (other : ℕ) → has clause other ≡ true → other ≡ lit
  pub root : is_true (literals (up_to 0 entries)) lit ≡ true

-- Each known clause is watched, or true at level 0.
abbrev pub AreHeld : List (List ℕ) → List (List ℕ) → List Entry → Type 0
AreHeld known clauses entries = (place : ℕ) → place < length known → IsWatchedAs clauses (slice_index_or known place []) ⊎ IsRootOf entries (slice_index_or known place [])

-- Below the present level, at the end of each level, no clause is unit or false.
abbrev pub AreQuietBelow : List (List ℕ) → TrailState → Type 0
AreQuietBelow clauses t = (level : ℕ) → level < t.level → All (IsQuiet (literals (up_to level t.entries))) clauses

-- whether a variable has a value
abbrev pub has_value : List ℕ → ℕ → Bool
has_value trues var = is_true trues (2 * var) || is_true trues (2 * var + 1)

-- The table tells which variables have a value: the entry of variable v stands at v - 1.
abbrev pub AreSet : List Bool → List ℕ → Type 0
AreSet table trues = (var : ℕ) → 0 < var → slice_index_or table (var - 1) false ≡ has_value trues var

-- Watches, a trail, what is noted beside them and the table of set variables belong together over the clauses that are
-- known; of these some are held already.
pub record IsRunning (known done : List (List ℕ)) (w : WatchState) (t : TrailState) (notes : Notes) (set : List Bool) : Type 0 where
  pub noted : IsNoted known w t notes
  pub held : AreHeld done w.clauses t.entries
  pub quiet : AreQuietBelow w.clauses t
  pub right : Right w t
  pub marked : AreSet set (literals t.entries)
  pub room : length set ≡ t.vars

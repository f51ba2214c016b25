-- The state of a search.
use Rattle.std.specs.Prelude.{◌≡◌, ◌≢◌, ℕ, ◌+◌, ◌*◌, ◌^◌, ◌<◌, true, List, [], All, length, slice_index, IsTrue}
use Rattle.cnf_core.specs.Literal.{negated, IsOver}
use Rattle.derivation.specs.LogText.{IsClause}
use Rattle.derivation.specs.Logs.{is_new}
use Rattle.derivation.specs.Propagation.{Follows}
use Rattle.derivation.specs.Step.{Step}
use Rattle.cnf_core.specs.Trues.{is_true}
use Rattle.sat_watch.specs.Literals.{has, EachOnce, IsOpen}
use Rattle.sat_watch.specs.Propagation.{IsQuiet}
use Rattle.sat_watch.specs.Trail.{TrailState, literals, up_to}
use Rattle.sat_analysis.specs.Learnt.{level_of}
use Rattle.sat_analysis.specs.Marked.{Marked}
use Rattle.sat_analysis.specs.Settled.{HasRoom}
use Rattle.sat_solver.specs.Queued.{IsQueued}
use Rattle.sat_solver.specs.Search.{known_by, IsLogged, IsRunning}
use Rattle.sat_solver.specs.declared.search.Search.{Search}

-- Nothing is marked.
abbrev pub unmarked : ℕ → Marked
unmarked vars = record { places = 2 * (vars + 1); lits = [] }

-- All parts of a search belong together, but for its log and what is held.
pub record IsBuilt (s : Search) (done : List (List ℕ)) : Type 0 where
  pub small : s.cnf.vars < 2 ^ 31
  pub vars : s.trail.vars ≡ s.cnf.vars
  pub running : IsRunning (known_by s.cnf s.log) done s.watches s.trail s.notes s.set.items
  pub queued : IsQueued s.cnf.vars s.queue s.set.items
  pub phases : length s.phases.items ≡ s.cnf.vars
  pub marks : s.marks ≡ unmarked s.cnf.vars
  pub minimiser : HasRoom s.cnf.vars s.minimiser

-- All known clauses are held, and the log is one of the search.
pub record IsSearch (s : Search) : Type 0 where
  pub built : IsBuilt s (known_by s.cnf s.log)
  pub logged : IsLogged s.cnf s.log
  pub over : All (λ clause. All (IsOver s.cnf.vars) clause) s.cnf.clauses

-- The formula, the log and the level are as before.
pub record Stays (old new : Search) : Type 0 where
  pub cnf : new.cnf ≡ old.cnf
  pub log : new.log ≡ old.log
  pub level : new.trail.level ≡ old.trail.level

-- A line is new and follows; of its literals, the first one first, this one has no value and all others are false, the
-- second one since the present level. At the end of no lower level it is unit or false.
pub record IsAsserting (known : List (List ℕ)) (t : TrailState) (table : List ℕ) (line : Step) (lits : List ℕ) : Type 0 where
  pub follows : Follows known line
  pub is_new : IsTrue (is_new known line)
  pub clause : IsClause t.vars line.clause
  pub same : (lit : ℕ) → has line.clause lit ≡ has lits lit
  pub some : 0 < length lits
  pub over : All (IsOver t.vars) lits
  pub once : EachOnce lits
  pub first : IsOpen (literals t.entries) (slice_index lits 0)
  pub others : (lit : ℕ) → has lits lit ≡ true → lit ≢ slice_index lits 0 → is_true (literals t.entries) (negated lit) ≡ true
  pub second : 1 < length lits → level_of table (slice_index lits 1) ≡ t.level
  pub quiet : (level : ℕ) → level < t.level → IsQuiet (literals (up_to level t.entries)) lits
  pub alone : length lits ≡ 1 → t.level ≡ 0

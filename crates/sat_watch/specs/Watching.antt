-- Which clause watches which of its literals, and when that fits a trail.
use Rattle.std.specs.Prelude.{◌≡◌, ◌≢◌, ℕ, ◌+◌, ◌-◌, ◌*◌, ◌/◌, ◌<◌, ◌≤◌, ◌==◌, if◌then◌else◌, true, List, [], length, slice_index, slice_index_or}
use Rattle.cnf_core.specs.Literal.{negated}
use Rattle.sat_watch.specs.Literals.{has}
use Rattle.sat_watch.specs.Trail.{TrailState, literals, levels}

-- The clauses in the order of their numbers, and the literal of each watch, or 0 where it is in no list.
-- Watches are numbered on behind the literals: those of clause c are 2 (vars + 1 + c) and the next.
pub record WatchState : Type 0 where
  pub vars : ℕ
  pub clauses : List (List ℕ)
  pub watched : List ℕ

-- the first watch of a clause
abbrev pub watch_of : WatchState → ℕ → ℕ
watch_of w clause = 2 * (w.vars + 1 + clause)

-- The clause is in no list.
abbrev pub IsFree : WatchState → ℕ → Type 0
IsFree w clause = (slice_index w.watched (watch_of w clause) ≡ 0) × (slice_index w.watched (watch_of w clause + 1) ≡ 0)

-- the other watch of the same clause
abbrev pub twin : ℕ → ℕ
twin watch = negated watch

-- the clause of a watch
abbrev pub clause_of : WatchState → ℕ → List ℕ
clause_of w watch = slice_index_or w.clauses (watch / 2 - (w.vars + 1)) []

abbrev pub IsWatch : WatchState → ℕ → Type 0
IsWatch w watch = (2 * (w.vars + 1) ≤ watch) × (watch < 2 * (w.vars + 1 + length w.clauses))

-- the watch by which a clause watches a literal: the first, or else the second
abbrev pub side_of : WatchState → ℕ → ℕ → ℕ
side_of w clause lit = if slice_index w.watched (watch_of w clause) == lit then watch_of w clause else watch_of w clause + 1

-- The watch is for a literal of its clause, and not for the one of its twin.
pub record IsSet (w : WatchState) (watch : ℕ) : Type 0 where
  pub inside : has (clause_of w watch) (slice_index w.watched watch) ≡ true
  pub apart : slice_index w.watched watch ≢ slice_index w.watched (twin watch)

-- Some entry makes the literal true at a level that is not above.
pub record IsTrueBy (lits levels : List ℕ) (lit level : ℕ) : Type 0 where
  pub place : ℕ
  pub within : place < length lits
  pub is : slice_index lits place ≡ lit
  pub below : slice_index levels place ≤ level

-- Where one literal was found false among the entries gone through, the other is true at a level that is not above.
abbrev pub IsGuarded : List ℕ → List ℕ → ℕ → ℕ → ℕ → Type 0
IsGuarded lits levels passed one other = (i : ℕ) → i < passed → slice_index lits i ≡ negated one → IsTrueBy lits levels other (slice_index levels i)

-- The entries that were not gone through are of the present level.
abbrev pub IsPending : TrailState → Type 0
IsPending t = (i : ℕ) → t.passed ≤ i → i < length t.entries → slice_index (levels t.entries) i ≡ t.level

-- Every clause watches two of its literals, the entries not gone through are of the present level, and
-- wherever a watched literal is false and has been gone through, the other is true at a level that is not above.
pub record Right (w : WatchState) (t : TrailState) : Type 0 where
  pub set : (watch : ℕ) → IsWatch w watch → IsSet w watch
  pub pending : IsPending t
  pub guarded : (watch : ℕ) → IsWatch w watch
      → IsGuarded (literals t.entries) (levels t.entries) t.passed (slice_index w.watched watch) (slice_index w.watched (twin watch))

-- The same, but for one clause that watches nothing yet.
pub record RightBut (clause : ℕ) (w : WatchState) (t : TrailState) : Type 0 where
  pub set : (watch : ℕ) → IsWatch w watch → watch / 2 ≢ w.vars + 1 + clause → IsSet w watch
  pub pending : IsPending t
  pub guarded : (watch : ℕ) → IsWatch w watch → watch / 2 ≢ w.vars + 1 + clause
      → IsGuarded (literals t.entries) (levels t.entries) t.passed (slice_index w.watched watch) (slice_index w.watched (twin watch))

-- The two literals may be watched together: where one was found false, the other is true at a level that is not above.
pub record CanPair (t : TrailState) (first second : ℕ) : Type 0 where
  pub one : IsGuarded (literals t.entries) (levels t.entries) t.passed first second
  pub other : IsGuarded (literals t.entries) (levels t.entries) t.passed second first

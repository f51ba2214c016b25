-- The walk back over the trail from a conflict: what is marked, and what the hints say so far.
use Rattle.std.specs.Prelude.{◌≡◌, ℕ, ◌+◌, ◌/◌, ◌<◌, ◌==◌, Bool, true, false, ◌&&◌, Option, Some, None, List, ◌++◌, All, length, take, reverse, filter, slice_index}
use Rattle.cnf_core.specs.Literal.{negated}
use Rattle.sat_watch.specs.declared.trail.Entry.{Entry}
use Rattle.cnf_core.specs.Trues.{is_true}
use Rattle.sat_watch.specs.Literals.{has, AreApart}
use Rattle.sat_watch.specs.Trail.{literals, levels, Rises}
use Rattle.sat_analysis.specs.Reasons.{Derives}

-- whether this is the literal
abbrev pub names : Option ℕ → ℕ → Bool
names None lit = false
names (Some x) lit = x == lit

-- Behind the old marks stand literals of the clause, so that all of them but the implied one are marked; so many of these are of the level.
pub record Adds (table clause : List ℕ) (implied : Option ℕ) (level : ℕ) (old new : List ℕ) (count : ℕ) : Type 0 where
  pub more : List ℕ
  pub is : new ≡ old ++ more
  pub from : (lit : ℕ) → has more lit ≡ true → (has clause lit ≡ true) × (names implied lit ≡ false)
  pub all : (lit : ℕ) → has clause lit ≡ true → names implied lit ≡ false → has new lit ≡ true
  pub counted : count ≡ length (filter (λ lit. slice_index table (lit / 2) == level) more)

-- how many entries of the level have their negations marked
abbrev pub marked_at : List ℕ → ℕ → List Entry → ℕ
marked_at marks level entries = length (filter (λ e. (e.level == level) && has marks (negated e.lit)) entries)

-- The table has the level of each entry, by its variable.
abbrev pub AreLeveled : List ℕ → List Entry → Type 0
AreLeveled table entries = All (λ e. slice_index table (e.lit / 2) ≡ e.level) entries

-- The entries of a sound trail whose present level this is.
pub record IsPath (level : ℕ) (entries : List Entry) : Type 0 where
  pub apart : AreApart (literals entries)
  pub rises : Rises 0 (levels entries) level

-- From the entries before a place the marked literals of theirs lead by the hints to a conflict; so many of them are of the level.
pub record IsAt (known : List (List ℕ)) (entries : List Entry) (marks hints : List ℕ) (level pending place : ℕ) : Type 0 where
  pub within : place < length entries + 1
  pub are_false : (lit : ℕ) → has marks lit ≡ true → is_true (literals entries) (negated lit) ≡ true
  pub counted : pending ≡ marked_at marks level (take place entries)
  pub derives : Derives known marks (reverse hints) (literals (take place entries))

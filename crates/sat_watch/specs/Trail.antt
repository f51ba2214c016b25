-- The trail: the literals that were made true, in order, with the level of each and the clause that forced it.
use Rattle.std.specs.Prelude.{◌≡◌, ℕ, ◌+◌, ◌*◌, ◌<◌, ◌≤◌, ◌^◌, Bool, List, [], ◌∷◌, ◌++◌, All, length, map, filter, nat_le}
use Rattle.cnf_core.specs.Literal.{IsOver}
use Rattle.sat_watch.specs.declared.trail.Entry.{Entry}
use Rattle.cnf_core.specs.Trues.{AreMarks}
use Rattle.sat_watch.specs.Literals.{AreApart}

-- a trail as contracts see it: over how many variables, its entries in order, its level, and how many entries propagation has gone through
pub record TrailState : Type 0 where
  pub vars : ℕ
  pub entries : List Entry
  pub level : ℕ
  pub passed : ℕ

abbrev pub literals : List Entry → List ℕ
literals entries = map (λ e. e.lit) entries

abbrev pub levels : List Entry → List ℕ
levels entries = map (λ e. e.level) entries

-- the entries of levels that are not above
abbrev pub up_to : ℕ → List Entry → List Entry
up_to level entries = filter (λ e. nat_le e.level level) entries

-- The entries are the front of others: their levels are not above the level, and those of the rest are.
pub record IsFront (level : ℕ) (front whole : List Entry) : Type 0 where
  pub rest : List Entry
  pub is : whole ≡ front ++ rest
  pub below : All (λ e. e.level ≤ level) front
  pub above : All (λ e. level < e.level) rest

-- From one level the levels rise by steps of at most 1 to another.
abbrev pub Rises : ℕ → List ℕ → ℕ → Type 0
Rises from [] to = from ≡ to
Rises from (level ∷ above) to = (from ≤ level) × (level ≤ from + 1) × Rises level above to

-- Every literal is over the variables, no variable has two entries, and every level up to the present one has an entry.
pub record IsSound (t : TrailState) : Type 0 where
  pub small : t.vars < 2 ^ 31
  pub over : All (IsOver t.vars) (literals t.entries)
  pub apart : AreApart (literals t.entries)
  pub rises : Rises 0 (levels t.entries) t.level
  pub within : t.passed ≤ length t.entries
  pub few : length t.entries ≤ t.vars

-- The table of the true literals belongs to the entries.
pub record IsMarked (t : TrailState) (marks : List Bool) : Type 0 where
  pub sound : IsSound t
  pub marked : AreMarks marks (literals t.entries)
  pub whole : length marks ≡ 2 * (t.vars + 1)

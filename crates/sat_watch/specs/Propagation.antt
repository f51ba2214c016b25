-- What clauses do under the true literals, and how propagation adds to a trail.
use Rattle.std.specs.Prelude.{◌≡◌, ◌≢◌, ℕ, ◌<◌, Some, List, [], ◌∷◌, ◌++◌, ⊤, true, length, slice_index_or}
use Rattle.cnf_core.specs.Literal.{negated}
use Rattle.sat_watch.specs.declared.trail.Entry.{Entry}
use Rattle.cnf_core.specs.Trues.{is_true}
use Rattle.sat_watch.specs.Literals.{has, IsOpen}
use Rattle.sat_watch.specs.Trail.{TrailState, literals}

-- All literals of the clause are false.
abbrev pub IsFalse : List ℕ → List ℕ → Type 0
IsFalse trues clause = (lit : ℕ) → has clause lit ≡ true → is_true trues (negated lit) ≡ true

-- The literal is of the clause and has no value, and all others of the clause are false.
pub record Forces (trues clause : List ℕ) (lit : ℕ) : Type 0 where
  pub inside : has clause lit ≡ true
  pub unset : IsOpen trues lit
  pub others : (other : ℕ) → has clause other ≡ true → other ≢ lit → is_true trues (negated other) ≡ true

-- The clause is neither false nor unit.
pub record IsQuiet (trues clause : List ℕ) : Type 0 where
  pub not_false : ¬ IsFalse trues clause
  pub not_unit : (lit : ℕ) → ¬ Forces trues clause lit

-- The entry is of the level, and has a clause as its reason that forces its literal.
pub record IsForced (clauses : List (List ℕ)) (trues : List ℕ) (level : ℕ) (entry : Entry) : Type 0 where
  pub clause : ℕ
  pub reason : entry.reason ≡ Some clause
  pub known : clause < length clauses
  pub forces : Forces trues (slice_index_or clauses clause []) entry.lit
  pub present : entry.level ≡ level

-- Each entry is forced under the literals that were true before it.
abbrev pub AreForced : List (List ℕ) → List ℕ → ℕ → List Entry → Type 0
AreForced clauses trues level [] = ⊤
AreForced clauses trues level (entry ∷ more) = IsForced clauses trues level entry × AreForced clauses (trues ++ entry.lit ∷ []) level more

-- The trail has its old entries, and behind them forced ones of the present level.
pub record Grows (clauses : List (List ℕ)) (old new : TrailState) : Type 0 where
  pub added : List Entry
  pub is : new.entries ≡ old.entries ++ added
  pub forced : AreForced clauses (literals old.entries) old.level added
  pub level : new.level ≡ old.level
  pub vars : new.vars ≡ old.vars

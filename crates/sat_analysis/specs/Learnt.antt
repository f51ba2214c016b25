-- What is learnt from a conflict.
use Rattle.std.specs.Prelude.{◌≡◌, ◌≢◌, ℕ, ◌/◌, ◌<◌, ◌≤◌, true, List, All, length, slice_index}
use Rattle.cnf_core.specs.Literal.{negated, IsOver}
use Rattle.derivation.specs.LogText.{IsClause}
use Rattle.derivation.specs.Propagation.{Follows}
use Rattle.cnf_core.specs.Trues.{is_true}
use Rattle.sat_watch.specs.Literals.{has, EachOnce}
use Rattle.sat_watch.specs.Trail.{TrailState, literals}
use Rattle.derivation.specs.Step.{Step}

-- the level at which a literal's variable was given its value
abbrev pub level_of : List ℕ → ℕ → ℕ
level_of table lit = slice_index table (lit / 2)

-- A line over the clause's literals follows. The clause is false; its first literal is the only one of the present
-- level, the second one of the highest level of the others, at which the first one will be forced.
pub record IsLearnt (known : List (List ℕ)) (t : TrailState) (table : List ℕ) (line : Step) (lits : List ℕ) (back : ℕ) : Type 0 where
  pub follows : Follows known line
  pub clause : IsClause t.vars line.clause
  pub same : (lit : ℕ) → has line.clause lit ≡ has lits lit
  pub some : 0 < length lits
  pub over : All (IsOver t.vars) lits
  pub once : EachOnce lits
  pub are_false : (lit : ℕ) → has lits lit ≡ true → is_true (literals t.entries) (negated lit) ≡ true
  pub first : level_of table (slice_index lits 0) ≡ t.level
  pub below : back < t.level
  pub others : (lit : ℕ) → has lits lit ≡ true → lit ≢ slice_index lits 0 → level_of table lit ≤ back
  pub second : 1 < length lits → level_of table (slice_index lits 1) ≡ back
  pub alone : length lits ≡ 1 → back ≡ 0

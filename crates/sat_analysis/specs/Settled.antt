-- Which literals of a line the others imply.
use Rattle.std.specs.Prelude.{◌≡◌, ◌≢◌, ℕ, ◌+◌, ◌*◌, ◌<◌, Bool, true, false, ◌||◌, List, ◌++◌, length, map, slice_index_or}
use Rattle.cnf_core.specs.Literal.{negated}
use Rattle.derivation.specs.Propagation.{ends}
use Rattle.sat_watch.specs.declared.trail.Entry.{Entry}
use Rattle.cnf_core.specs.Trues.{is_true}
use Rattle.sat_watch.specs.Literals.{has}
use Rattle.sat_watch.specs.Propagation.{IsFalse}
use Rattle.sat_watch.specs.Trail.{TrailState, literals}
use Rattle.sat_watch.specs.Watching.{WatchState}
use Rattle.sat_analysis.specs.declared.minimise.Minimiser.{Minimiser}
use Rattle.sat_analysis.specs.declared.notes.Notes.{Notes}
use Rattle.sat_analysis.specs.Learnt.{level_of}
use Rattle.sat_analysis.specs.Noted.{IsNoted}
use Rattle.sat_analysis.specs.Reasons.{IsNumberOf, Within}

-- All tables have room for the literals of so many variables.
pub record HasRoom (vars : ℕ) (m : Minimiser) : Type 0 where
  pub kept : m.kept.places ≡ 2 * (vars + 1)
  pub implied : m.implied.places ≡ 2 * (vars + 1)
  pub failed : m.failed.places ≡ 2 * (vars + 1)

-- whether a literal is kept or implied
abbrev pub covers : List ℕ → List ℕ → ℕ → Bool
covers kept implied lit = has kept lit || has implied lit

abbrev pub Covers : Minimiser → ℕ → Type 0
Covers m lit = covers m.kept.lits m.implied.lits lit ≡ true

-- What one covers the other does.
abbrev pub AllStay : Minimiser → Minimiser → Type 0
AllStay old new = (lit : ℕ) → Covers old lit → Covers new lit

-- Where the kept literals are false and the implied ones have no value yet, the hints make those false one after the
-- other, and go on from there.
abbrev pub ImpliesBy : List (List ℕ) → List ℕ → List ℕ → List ℕ → List ℕ → Type 0
ImpliesBy known trues kept implied hints = (part left : List ℕ) → Within part trues → IsFalse part kept
    → ((lit : ℕ) → has implied lit ≡ true → is_true part (negated lit) ≡ false)
    → ends known left (part ++ map negated implied) ≡ true → ends known (hints ++ left) part ≡ true

abbrev pub Implies : List (List ℕ) → List ℕ → Minimiser → Type 0
Implies known trues m = ImpliesBy known trues m.kept.lits m.implied.lits m.hints.items

-- The literals that are settled are false, of lower levels, and none is both kept and implied.
pub record IsSettled (t : TrailState) (table : List ℕ) (m : Minimiser) : Type 0 where
  pub room : HasRoom t.vars m
  pub kept_false : IsFalse (literals t.entries) m.kept.lits
  pub implied_false : IsFalse (literals t.entries) m.implied.lits
  pub low : (lit : ℕ) → Covers m lit → level_of table lit < t.level
  pub apart : (lit : ℕ) → has m.kept.lits lit ≡ true → has m.implied.lits lit ≡ false

-- Watches, a trail and notes belong together over some known clauses.
pub record IsSupported (w : WatchState) (t : TrailState) (notes : Notes) : Type 0 where
  pub known : List (List ℕ)
  pub noted : IsNoted known w t notes

-- What follows by the hints of the one does so by those of the other.
abbrev pub KeepsWhatItImplies : WatchState → TrailState → Notes → Minimiser → Minimiser → Type 0
KeepsWhatItImplies w t notes old new = (known : List (List ℕ)) → IsNoted known w t notes → Implies known (literals t.entries) old → Implies known (literals t.entries) new

-- The number is of a clause that has the literal's negation, and otherwise literals that are covered alone.
pub record IsCoveredReason (known : List (List ℕ)) (m : Minimiser) (lit number : ℕ) : Type 0 where
  pub clause : List ℕ
  pub number_of : IsNumberOf known clause number
  pub inside : has clause (negated lit) ≡ true
  pub others : (other : ℕ) → has clause other ≡ true → other ≢ negated lit → Covers m other

-- The entry stands on the trail and makes the literal true.
pub record IsEntryOf (t : TrailState) (e : Entry) (lit : ℕ) : Type 0 where
  pub place : ℕ
  pub within : place < length t.entries
  pub is : e ≡ slice_index_or t.entries place e
  pub made : e.lit ≡ lit

-- What is noted beside watches and a trail belongs to them.
use Rattle.std.specs.Prelude.{◌≡◌, ℕ, ◌+◌, List, length}
use Rattle.sat_watch.specs.Trail.{TrailState}
use Rattle.sat_watch.specs.Watching.{WatchState}
use Rattle.sat_analysis.specs.declared.notes.Notes.{Notes}
use Rattle.sat_analysis.specs.Reasons.{AreNumbered, AreBacked}
use Rattle.sat_analysis.specs.Walk.{AreLeveled}

-- Each clause of the watches has the number of a known clause, each variable its level, and each entry its reason.
pub record IsNoted (known : List (List ℕ)) (w : WatchState) (t : TrailState) (notes : Notes) : Type 0 where
  pub vars : w.vars ≡ t.vars
  pub numbers : length notes.numbers.items ≡ length w.clauses
  pub units : length notes.units.items ≡ t.vars + 1
  pub levels : length notes.levels.items ≡ t.vars + 1
  pub numbered : AreNumbered known w.clauses notes.numbers.items
  pub leveled : AreLeveled notes.levels.items t.entries
  pub backed : AreBacked known w.clauses notes.units.items t.entries

use Rattle.std.proofs.Common.{◌≡◌, ◌≤◌, take}
use Rattle.sat_watch.specs.Literals.{EachOnce}
use Rattle.sat_analysis.specs.Walk.{Adds}
use Rattle.sat_analysis.proofs.walk.mark_clause.Given as goal

abbrev pub invariant-loop-lit : goal.invariant-loop-lit
invariant-loop-lit l = record {
  places : l.marks.places ≡ l.initial.marks.places;
  once : EachOnce l.marks.lits;
  few : l.count ≤ l.lit-index;
  adds : Adds l.levels (take l.lit-index l.clause) l.implied l.level l.initial.marks.lits l.marks.lits l.count;
}

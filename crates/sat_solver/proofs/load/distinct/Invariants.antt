use Rattle.std.proofs.Common.{◌≡◌, ℕ, take}
use Rattle.sat_watch.specs.Literals.{has}
use Rattle.sat_solver.proofs.load.distinct.Given as goal

abbrev pub invariant-loop-lit : goal.invariant-loop-lit
invariant-loop-lit l = record {
  places : l.marks.places ≡ l.initial.marks.places;
  same : (lit : ℕ) → has l.marks.lits lit ≡ has (take l.lit-index l.clause) lit;
}

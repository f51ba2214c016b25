use Rattle.std.proofs.Common.{◌≡◌, ◌-◌}
use Rattle.sat_watch.specs.Watching.{Right}
use Rattle.sat_watch.specs.Propagation.{Grows}
use Rattle.sat_watch.proofs.watches.Watches.propagate.Given as goal

abbrev pub invariant-entries : goal.invariant-entries
invariant-entries l = record {
  right : Right l.self l.trail;
  grows : Grows l.self.clauses l.fn.trail l.trail;
  vars : l.self.vars ≡ l.fn.self.vars;
  clauses : l.self.clauses ≡ l.fn.self.clauses;
}

abbrev pub decreases-entries : goal.decreases-entries
decreases-entries l = l.trail.vars - l.trail.passed

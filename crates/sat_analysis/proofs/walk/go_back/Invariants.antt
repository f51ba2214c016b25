use Rattle.std.proofs.Common.{◌≡◌, ◌≤◌}
use Rattle.sat_analysis.specs.Walk.{IsAt}
use Rattle.sat_analysis.proofs.walk.go_back.Given as goal

abbrev pub ghost-step_back : goal.ghost-step_back
ghost-step_back g a = g.known

abbrev pub invariant-loop-pending : goal.invariant-loop-pending
invariant-loop-pending g l = record {
  places : l.marks.places ≡ l.initial.marks.places;
  enough : l.stop ≤ l.pending;
  at : IsAt g.known l.trail.entries l.marks.lits l.hints.items l.trail.level l.pending l.left;
}

abbrev pub decreases-loop-pending : goal.decreases-loop-pending
decreases-loop-pending g l = l.left

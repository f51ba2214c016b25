use Rattle.std.proofs.Common.{◌≡◌, ◌<◌, ◌+◌, ℕ, List, take}
use Rattle.sat_analysis.specs.Walk.{IsAt, marked_at}
use Rattle.sat_analysis.proofs.walk.last_marked.Given as goal

abbrev pub invariant-places : goal.invariant-places
invariant-places l = record {
  within : l.place < l.left;
  one : 1 ≡ marked_at l.marks.lits l.trail.level (take (l.place + 1) l.trail.entries);
  at : (known : List (List ℕ)) (hints : List ℕ) → IsAt known l.trail.entries l.marks.lits hints l.trail.level 1 l.left → IsAt known l.trail.entries l.marks.lits hints l.trail.level 1 (l.place + 1);
}

abbrev pub decreases-places : goal.decreases-places
decreases-places l = l.place

use Rattle.std.proofs.Common.{◌≡◌, ℕ, ◌≤◌, List, length}
use Rattle.cnf_writer.specs.Progress.{IsDown, IsRooted}
use Rattle.cnf_writer.proofs.writer.write_below.Given as goal

abbrev pub invariant-loop-place : goal.invariant-loop-place
invariant-loop-place l = record {
  within : l.place ≤ length l.gates;
  wide : length l.marks.items ≡ length l.gates;
  vars : l.cnf.vars ≡ l.fn.cnf.vars;
  down : (roots : List ℕ) → IsRooted roots (length roots) l.fn.marks.items l.fn.cnf.clauses → IsDown l.gates roots l.place l.marks.items l.cnf.clauses;
}

abbrev pub decreases-loop-place : goal.decreases-loop-place
decreases-loop-place l = l.place

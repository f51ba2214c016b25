use Rattle.std.proofs.Common.{◌≡◌, ◌+◌, length}
use Rattle.cnf_writer.specs.Progress.{IsRooted}
use Rattle.cnf_writer.proofs.writer.write.Given as goal

abbrev pub invariant-loop-index : goal.invariant-loop-index
invariant-loop-index l = record {
  wide : length l.marks.items ≡ length l.gates;
  vars : l.cnf.vars + 1 ≡ length l.gates;
  rooted : IsRooted l.roots l.index l.marks.items l.cnf.clauses;
}

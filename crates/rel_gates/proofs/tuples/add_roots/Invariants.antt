use Rattle.std.proofs.Common.{◌≡◌, ◌++◌, take}
use Rattle.rel_gates.specs.Rows.{root_uses}
use Rattle.rel_gates.proofs.tuples.add_roots.Given as goal

abbrev pub invariant-loop-place : goal.invariant-loop-place
invariant-loop-place l = l.list.items ≡ l.fn.list.items ++ take l.place (root_uses l.problem)

use Rattle.std.proofs.Common.{◌≡◌, ◌++◌, take}
use Rattle.rel_gates.specs.Rows.{link_uses}
use Rattle.rel_gates.proofs.tuples.add_links.Given as goal

abbrev pub invariant-loop-place : goal.invariant-loop-place
invariant-loop-place l = l.list.items ≡ l.fn.list.items ++ take l.place (link_uses l.problem)

use Rattle.std.proofs.Common.{◌≡◌, ◌++◌, map, take}
use Rattle.rel_core.specs.Uses.{AsSet}
use Rattle.rel_gates.specs.Naming.{wanted_each}
use Rattle.rel_gates.proofs.uses.add_each.Given as goal

abbrev pub invariant-loop-relation : goal.invariant-loop-relation
invariant-loop-relation l = l.list.items ≡ l.fn.list.items ++ map (wanted_each l.problem AsSet) (take l.relation-index l.relations)

use Rattle.std.proofs.Common.{◌≡◌, ◌++◌, drop, map}
use Rattle.typed_statements.specs.Kinds.{kind_of}
use Rattle.typed_core.proofs.members.kinds_of.Given as goal

abbrev pub invariant-loop-sort : goal.invariant-loop-sort
invariant-loop-sort l = l.kinds ++ map kind_of (drop l.sort-index l.sorts) ≡ map kind_of l.sorts

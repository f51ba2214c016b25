use Rattle.std.proofs.Common.{◌≡◌, drop, map}
use Rattle.java_tree.specs.Seen.{part_tree}
use Rattle.typed_statements.specs.Heads.{with_parts}
use Rattle.typed_statements.proofs.heads.add_members.Given as goal

abbrev pub invariant-loop-member : goal.invariant-loop-member
invariant-loop-member l = with_parts l.owner l.default l.world (map part_tree (drop l.member-index l.members)) ≡ with_parts l.owner l.default l.initial.world (map part_tree l.members)

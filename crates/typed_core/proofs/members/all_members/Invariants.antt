use Rattle.std.proofs.Common.{◌≡◌, Ok, drop, map}
use Rattle.java_tree.specs.Seen.{part_tree}
use Rattle.typed_core.specs.Members.{no_members, counted_parts}
use Rattle.typed_core.specs.Reported.{parts_told}
use Rattle.typed_core.proofs.members.all_members.Given as goal

-- what is left still gives the same
abbrev pub invariant-loop-tree : goal.invariant-loop-tree
invariant-loop-tree l =
    (parts_told l.world l.owner l.default l.so_far l.done (map part_tree (drop l.tree-index l.trees)) ≡ parts_told l.world l.owner l.default l.initial.so_far (Ok no_members) (map part_tree l.trees))
    × (counted_parts l.so_far (map part_tree (drop l.tree-index l.trees)) ≡ counted_parts l.initial.so_far (map part_tree l.trees))

use Rattle.std.proofs.Common.{◌≡◌, ◌++◌, drop, map}
use Rattle.std.specs.List.{flat_map}
use Rattle.java_tree.specs.Seen.{part_tree}
use Rattle.java_tree.specs.Print.{part_written}
use Rattle.java_tree.proofs.print_members.push_members.Given as goal

-- what is left is still to be written
abbrev pub invariant-loop-member : goal.invariant-loop-member
invariant-loop-member l = l.words.items ++ flat_map part_written (map part_tree (drop l.member-index l.members)) ≡ l.initial.words.items ++ flat_map part_written (map part_tree l.members)

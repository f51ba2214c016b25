use Rattle.std.proofs.Common.{◌≡◌, ◌++◌, drop, map}
use Rattle.std.specs.List.{flat_map}
use Rattle.java_tree.specs.Seen.{class_tree}
use Rattle.java_tree.specs.Print.{class_written}
use Rattle.java_tree.proofs.print_members.push_classes.Given as goal

-- what is left is still to be written
abbrev pub invariant-loop-class : goal.invariant-loop-class
invariant-loop-class l = l.words.items ++ flat_map class_written (map class_tree (drop l.class-index l.classes)) ≡ l.initial.words.items ++ flat_map class_written (map class_tree l.classes)

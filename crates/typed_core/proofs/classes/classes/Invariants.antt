use Rattle.std.proofs.Common.{◌≡◌, Ok, drop, map}
use Rattle.java_tree.specs.Seen.{class_tree}
use Rattle.typed_core.specs.Members.{no_counts, nothing_built}
use Rattle.typed_core.specs.Reported.{classes_told}
use Rattle.typed_core.proofs.classes.classes.Given as goal

-- what is left still gives the same
abbrev pub invariant-loop-tree : goal.invariant-loop-tree
invariant-loop-tree l =
    classes_told l.world l.number l.counts l.done (map class_tree (drop l.tree-index l.trees)) ≡ classes_told l.world 0 no_counts (Ok nothing_built) (map class_tree l.trees)

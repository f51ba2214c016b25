use Rattle.std.proofs.Common.{◌≡◌, drop, map}
use Rattle.java_tree.specs.Seen.{class_tree}
use Rattle.typed_statements.specs.Heads.{with_classes}
use Rattle.typed_statements.proofs.heads.add_classes.Given as goal

abbrev pub invariant-loop-class : goal.invariant-loop-class
invariant-loop-class l = with_classes l.owner l.world (map class_tree (drop l.class-index l.classes)) ≡ with_classes 0 l.initial.world (map class_tree l.classes)

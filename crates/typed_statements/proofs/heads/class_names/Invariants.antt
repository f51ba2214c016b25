use Rattle.std.proofs.Common.{◌≡◌, ◌++◌, drop, map}
use Rattle.java_tree.specs.Seen.{class_tree}
use Rattle.typed_statements.specs.Heads.{class_names}
use Rattle.typed_statements.proofs.heads.class_names.Given as goal

abbrev pub invariant-loop-class : goal.invariant-loop-class
invariant-loop-class l = l.names ++ class_names (map class_tree (drop l.class-index l.classes)) ≡ class_names (map class_tree l.classes)

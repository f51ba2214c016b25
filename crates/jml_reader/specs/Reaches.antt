-- A reach of the code, as reading sees it.
use Rattle.java_tree.specs.declared.clauses.ReachTree.{ReachTree}
use Rattle.java_tree.specs.Seen.{reach_root, reach_class, reach_fields}
use Rattle.expression_reading.specs.Reading.{Reach}

abbrev pub reach_of : ReachTree → Reach
reach_of r = record { root = reach_root r; kind = reach_class r; fields = reach_fields r }

use Rattle.std.proofs.Common.{◌<◌, length, map}
use Rattle.java_tree.specs.Seen.{class_tree}
use Rattle.java_reading.specs.MemberReading.{begins_class, class_in, classes_in}
use Rattle.text_reading.specs.Readers.{expression_at, arguments_at, predicate_at}
use Rattle.java_reader.proofs.Loops.{SoFar}
use Rattle.java_reader.proofs.classes.classes.Given as goal

abbrev pub invariant-more : goal.invariant-more
invariant-more l = record { reads : SoFar (begins_class expression_at arguments_at predicate_at l.left) (class_in expression_at arguments_at predicate_at l.left) (classes_in expression_at arguments_at predicate_at l.left l.fn.tokens) (map class_tree l.classes.items) l.rest; within : length l.rest < length l.fn.tokens }

abbrev pub decreases-more : goal.decreases-more
decreases-more l = length l.rest

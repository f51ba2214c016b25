use Rattle.std.proofs.Common.{◌≤◌, length, map}
use Rattle.java_tree.specs.Seen.{part_tree}
use Rattle.java_reading.specs.PartForms.{begins_part}
use Rattle.java_reading.specs.MemberReading.{member_in, members_in}
use Rattle.text_reading.specs.Readers.{expression_at, arguments_at, predicate_at}
use Rattle.java_reader.proofs.MemberLoops.{PartsSoFar}
use Rattle.java_reader.proofs.classes.members.Given as goal

abbrev pub invariant-more : goal.invariant-more
invariant-more l = record { reads : PartsSoFar begins_part (member_in expression_at arguments_at predicate_at l.left) (members_in expression_at arguments_at predicate_at l.left l.fn.tokens) (map part_tree l.members.items) l.rest; within : length l.rest ≤ length l.fn.tokens }

abbrev pub decreases-more : goal.decreases-more
decreases-more l = length l.rest

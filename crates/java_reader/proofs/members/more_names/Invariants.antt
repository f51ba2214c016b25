use Rattle.std.proofs.Common.{◌≤◌, false, length}
use Rattle.java_reading.specs.declared.marks.Fixed.TheVariants.{Comma}
use Rattle.java_reading.specs.Tokens.{next_is}
use Rattle.java_reader.specs.Items.{comma_name_in, more_names_in}
use Rattle.java_reader.proofs.Loops.{SoFar}
use Rattle.java_reader.proofs.members.more_names.Given as goal

abbrev pub invariant-more : goal.invariant-more
invariant-more l = record { reads : SoFar (next_is false Comma) comma_name_in (more_names_in l.fn.tokens) l.names.items l.rest; within : length l.rest ≤ length l.fn.tokens }

abbrev pub decreases-more : goal.decreases-more
decreases-more l = length l.rest

use Rattle.std.proofs.Common.{◌<◌, false, length, map}
use Rattle.java_tree.specs.Seen.{param_tree}
use Rattle.java_reading.specs.declared.marks.Fixed.TheVariants.{Comma}
use Rattle.java_reading.specs.Tokens.{next_is}
use Rattle.java_reader.specs.Items.{comma_parameter_in, some_parameters_in}
use Rattle.java_reader.proofs.Loops.{SoFar}
use Rattle.java_reader.proofs.parameters.some_parameters.Given as goal

abbrev pub invariant-more : goal.invariant-more
invariant-more l = record { reads : SoFar (next_is false Comma) comma_parameter_in (some_parameters_in l.fn.tokens) (map param_tree l.parameters.items) l.rest; within : length l.rest < length l.fn.tokens }

abbrev pub decreases-more : goal.decreases-more
decreases-more l = length l.rest

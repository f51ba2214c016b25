use Rattle.std.proofs.Common.{◌<◌, false, length}
use Rattle.java_reading.specs.declared.marks.Fixed.TheVariants.{Dot}
use Rattle.java_reading.specs.Tokens.{next_is}
use Rattle.java_reading.specs.MemberReading.{dotted_in}
use Rattle.java_reader.specs.Items.{dot_name_in}
use Rattle.java_reader.proofs.Passing.{Passing}
use Rattle.java_reader.proofs.headers.skip_dotted.Given as goal

abbrev pub invariant-parts : goal.invariant-parts
invariant-parts l = record { reads : Passing (next_is false Dot) dot_name_in (dotted_in l.fn.tokens) l.rest; within : length l.rest < length l.fn.tokens }

abbrev pub decreases-parts : goal.decreases-parts
decreases-parts l = length l.rest

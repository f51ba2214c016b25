use Rattle.std.proofs.Common.{◌<◌, false, length, map}
use Rattle.java_tree.specs.Seen.{decl_tree}
use Rattle.java_reading.specs.declared.marks.Fixed.TheVariants.{Comma}
use Rattle.java_reading.specs.Tokens.{next_is}
use Rattle.java_reading.specs.StatementReading.{declarations_in}
use Rattle.text_reading.specs.Readers.{expression_at, arguments_at}
use Rattle.java_reader.specs.Items.{comma_declaration_in}
use Rattle.java_reader.proofs.Loops.{SoFar}
use Rattle.java_reader.proofs.declarations.declarations.Given as goal

abbrev pub invariant-more : goal.invariant-more
invariant-more l = record { reads : SoFar (next_is false Comma) (comma_declaration_in l.left) (declarations_in expression_at arguments_at l.left l.fn.tokens) (map decl_tree l.declared.items) l.rest; within : length l.rest < length l.fn.tokens }

abbrev pub decreases-more : goal.decreases-more
decreases-more l = length l.rest

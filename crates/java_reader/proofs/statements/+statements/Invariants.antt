use Rattle.std.proofs.Common.{◌+◌, ◌*◌, ◌≤◌, length, map}
use Rattle.java_tree.specs.Seen.{stmt_tree}
use Rattle.java_reading.specs.Forms.{begins_statement}
use Rattle.java_reading.specs.StatementReading.{statement_at, statements_in}
use Rattle.text_reading.specs.Readers.{expression_at, arguments_at}
use Rattle.java_reader.proofs.Loops.{SoFar}
use Rattle.java_reader.proofs.statements.+statements.Given as goal

abbrev pub decreases-statement : goal.decreases-statement
decreases-statement l = 4 * l.left + 2

abbrev pub decreases-statements : goal.decreases-statements
decreases-statements l = 4 * l.left + 3

abbrev pub decreases-block : goal.decreases-block
decreases-block l = 4 * l.left + 1

abbrev pub decreases-headed : goal.decreases-headed
decreases-headed l = 4 * l.left

abbrev pub decreases-repeated : goal.decreases-repeated
decreases-repeated l = 4 * l.left + 1

abbrev pub decreases-conditional : goal.decreases-conditional
decreases-conditional l = 4 * l.left + 1

abbrev pub decreases-alternative : goal.decreases-alternative
decreases-alternative l = 4 * l.left

abbrev pub invariant-statements-more : goal.invariant-statements-more
invariant-statements-more l = record {
  reads : SoFar begins_statement (statement_at expression_at arguments_at l.left) (statements_in expression_at arguments_at l.left l.fn.tokens) (map stmt_tree l.statements.items) l.rest;
  within : length l.rest ≤ length l.fn.tokens;
}

abbrev pub decreases-statements-more : goal.decreases-statements-more
decreases-statements-more l = length l.rest

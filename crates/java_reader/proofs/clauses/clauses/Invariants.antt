use Rattle.std.proofs.Common.{◌≤◌, true, length, map}
use Rattle.java_tree.specs.Seen.{clause_tree}
use Rattle.java_reading.specs.Tokens.{at_head}
use Rattle.java_reading.specs.MemberReading.{clause_in, clauses_in, is_clause}
use Rattle.text_reading.specs.Readers.{expression_at, arguments_at, predicate_at}
use Rattle.java_reader.proofs.Loops.{SoFar}
use Rattle.java_reader.proofs.clauses.clauses.Given as goal

abbrev pub invariant-more : goal.invariant-more
invariant-more l = record { reads : SoFar (λ h. is_clause (at_head true h)) (clause_in expression_at arguments_at predicate_at l.left) (clauses_in expression_at arguments_at predicate_at l.left l.fn.tokens) (map clause_tree l.clauses.items) l.rest; within : length l.rest ≤ length l.fn.tokens }

abbrev pub decreases-more : goal.decreases-more
decreases-more l = length l.rest

use Rattle.std.proofs.Common.{◌≡◌, ◌≤◌, [], length}
use Rattle.java_reading.specs.StatementReading.{gather}
use Rattle.java_reader.specs.Modifiers.{allowed_at}
use Rattle.java_reader.proofs.modifiers.modifiers.Given as goal

abbrev pub invariant-front : goal.invariant-front
invariant-front l = record { reads : gather (allowed_at l.modified) [] l.fn.tokens ≡ gather (allowed_at l.modified) l.gathered.items l.rest; within : length l.rest ≤ length l.fn.tokens }

abbrev pub decreases-front : goal.decreases-front
decreases-front l = length l.rest

use Rattle.std.proofs.Common.{◌≤◌, length}
use Rattle.java_reader.proofs.ImportTails.{Leads}
use Rattle.java_reader.proofs.headers.skip_import_tail.Given as goal

abbrev pub invariant-parts : goal.invariant-parts
invariant-parts l = record { reads : Leads l.fn.tokens l.rest; within : length l.rest ≤ length l.fn.tokens }

abbrev pub decreases-parts : goal.decreases-parts
decreases-parts l = length l.rest

use Rattle.std.proofs.Common.{◌≤◌, false, length}
use Rattle.java_reading.specs.declared.marks.Fixed.TheVariants.{Import}
use Rattle.java_reading.specs.Tokens.{next_is}
use Rattle.java_reading.specs.MemberReading.{import_in}
use Rattle.java_reader.specs.Headers.{imports_passed}
use Rattle.java_reader.proofs.Passing.{Passing}
use Rattle.java_reader.proofs.headers.skip_imports.Given as goal

abbrev pub invariant-imports : goal.invariant-imports
invariant-imports l = record { reads : Passing (next_is false Import) import_in (imports_passed l.fn.tokens) l.rest; within : length l.rest ≤ length l.fn.tokens }

abbrev pub decreases-imports : goal.decreases-imports
decreases-imports l = length l.rest

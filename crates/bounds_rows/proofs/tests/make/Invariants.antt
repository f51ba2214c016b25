use Rattle.std.proofs.Common.{drop}
use Rattle.bounds_table.specs.Core.{AreLawful}
use Rattle.bounds_rows.proofs.tests.make.Given as goal

abbrev pub invariant-loop-event : goal.invariant-loop-event
invariant-loop-event l = AreLawful l.core (drop l.event-index l.events)

use Rattle.bounds_table.specs.Rule.{IsOf}
use Rattle.bounds_rows.proofs.tests.claim_all.Given as goal

abbrev pub invariant-loop-round : goal.invariant-loop-round
invariant-loop-round l = IsOf l.bounds l.pass

abbrev pub invariant-loop-tuple : goal.invariant-loop-tuple
invariant-loop-tuple l = IsOf l.bounds l.pass

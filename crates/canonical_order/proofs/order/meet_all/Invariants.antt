use Rattle.std.proofs.Common.{◌≡◌, drop}
use Rattle.canonical_order.specs.Meeting.{met_all}
use Rattle.canonical_order.proofs.order.meet_all.Given as goal

abbrev pub invariant-loop-value : goal.invariant-loop-value
invariant-loop-value l = met_all l.count l.next (drop l.value-index l.values) ≡ met_all l.count l.initial.next l.values

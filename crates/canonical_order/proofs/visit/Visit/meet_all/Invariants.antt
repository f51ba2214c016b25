use Rattle.std.proofs.Common.{◌≡◌, drop}
use Rattle.canonical_order.specs.Visiting.{with_values}
use Rattle.canonical_order.proofs.visit.Visit.meet_all.Given as goal

abbrev pub invariant-loop-value : goal.invariant-loop-value
invariant-loop-value l =
    (l.self.count ≡ l.initial.self.count) × (with_values l.self.count l.self.order (drop l.value-index l.values) ≡ with_values l.initial.self.count l.initial.self.order l.values)

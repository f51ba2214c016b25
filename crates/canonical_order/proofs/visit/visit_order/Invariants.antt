use Rattle.std.proofs.Common.{◌≡◌, ◌-◌, length}
use Rattle.std.specs.Prelude.{fold}
use Rattle.std.specs.List.{range_with_len}
use Rattle.canonical_order.specs.Visiting.{with_fields, visited}
use Rattle.canonical_order.proofs.visit.visit_order.Given as goal

abbrev pub invariant-loop-place : goal.invariant-loop-place
invariant-loop-place l =
    (l.visit.count ≡ length l.start.objects) × (fold (with_fields l.start.objects) l.visit.order (range_with_len l.place (length l.start.objects - l.place)) ≡ visited l.start)

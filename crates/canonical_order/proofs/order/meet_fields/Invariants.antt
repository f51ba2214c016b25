use Rattle.std.proofs.Common.{◌≡◌, drop}
use Rattle.std.specs.Prelude.{flat_map}
use Rattle.canonical_order.specs.Meeting.{met_all}
use Rattle.canonical_order.proofs.order.meet_fields.Given as goal

abbrev pub invariant-loop-object : goal.invariant-loop-object
invariant-loop-object l =
    met_all l.count l.next (flat_map (λ x. x.cells) (drop l.object-index l.objects)) ≡ met_all l.count l.initial.next (flat_map (λ x. x.cells) l.objects)

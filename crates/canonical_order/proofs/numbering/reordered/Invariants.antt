use Rattle.std.proofs.Common.{◌≡◌, take}
use Rattle.std.specs.Prelude.{filter_map, option_map, slice_get}
use Rattle.canonical_order.specs.Canonical.{renamed_object}
use Rattle.canonical_order.proofs.numbering.reordered.Given as goal

abbrev pub invariant-loop-place : goal.invariant-loop-place
invariant-loop-place l = l.all ≡ filter_map (λ o. option_map (renamed_object l.order) (slice_get l.objects o)) (take l.place-index l.order)

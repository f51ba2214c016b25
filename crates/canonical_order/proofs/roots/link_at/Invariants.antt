use Rattle.std.proofs.Common.{◌≡◌, ◌-◌}
use Rattle.std.specs.Prelude.{filter, slice_get}
use Rattle.std.specs.List.{range_with_len}
use Rattle.canonical_order.specs.Tuples.{is_link, links_of}
use Rattle.canonical_order.proofs.roots.link_at.Given as goal

abbrev pub invariant-loop-field : goal.invariant-loop-field
invariant-loop-field l =
    slice_get (filter (is_link l.unit) (range_with_len l.field (l.count - l.field))) l.left ≡ slice_get (links_of l.unit) l.place

use Rattle.std.proofs.Common.{◌≡◌, ◌-◌}
use Rattle.std.specs.Prelude.{filter, slice_get}
use Rattle.std.specs.List.{range_with_len}
use Rattle.canonical_order.specs.Tuples.{is_root, roots_of}
use Rattle.canonical_order.proofs.roots.root_at.Given as goal

abbrev pub invariant-loop-root : goal.invariant-loop-root
invariant-loop-root l =
    slice_get (filter (is_root l.method) (range_with_len l.root (l.count - l.root))) l.left ≡ slice_get (roots_of l.method) l.place

use Rattle.std.proofs.Common.{◌≡◌}
use Rattle.std.specs.Prelude.{map, filter}
use Rattle.std.specs.List.{range_with_len}
use Rattle.canonical_order.specs.Tuples.{is_root}
use Rattle.canon_rel.specs.Places.{root_place}
use Rattle.canon_rel.proofs.places_below.root_places.Given as goal

abbrev pub invariant-loop-root : goal.invariant-loop-root
invariant-loop-root l =
    l.places ≡ map (root_place l.at l.method) (filter (is_root l.method) (range_with_len 0 l.root))

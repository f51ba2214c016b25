use Rattle.std.proofs.Common.{◌≡◌, ◌++◌}
use Rattle.std.specs.Prelude.{map, filter}
use Rattle.std.specs.List.{range_with_len}
use Rattle.canonical_order.specs.Tuples.{is_link}
use Rattle.rel_core.specs.Shown.{field_relation}
use Rattle.canon_rel.specs.declared.places.Place.TheVariants as place
use Rattle.canon_rel.proofs.places_below.push_fields.Given as goal

abbrev pub invariant-loop-field : goal.invariant-loop-field
invariant-loop-field l =
    l.places ≡ l.initial.places ++ map (λ f. place.Field (field_relation l.at f) l.object) (filter (is_link l.problem.unit) (range_with_len 0 l.field))

-- The order in which a reading has its objects. (This project's own.)
use Rattle.std.specs.Prelude.{ℕ, ◌-◌, ◌==◌, nat_lt, Bool, not, ◌&&◌, ◌||◌, List}
use Rattle.std.specs.List.{list_all, list_any, position_or_len}
use Rattle.heap_core.specs.declared.value.Value.TheVariants.{Obj}
use Rattle.heap_core.specs.Posed.{Posed}
use Rattle.rel_core.specs.declared.indices.Indices.{Indices}
use Rattle.rel_core.specs.Reading.{Reading, numbers_below}
use Rattle.rel_core.specs.Shown.{live_relation}
use Rattle.canon_rel.specs.declared.places.Place.{Place}
use Rattle.canon_rel.specs.Places.{refs_at, places_below}

-- the object is at the place
abbrev pub has_at : Reading → ℕ → Place → Bool
has_at m o q = refs_at m q (Obj o)

-- the first place that has object a comes before the first that has object b
abbrev pub comes_before : Reading → List Place → ℕ → ℕ → Bool
comes_before m places a b = nat_lt (position_or_len (has_at m a) places) (position_or_len (has_at m b) places)

-- object j is at one of the places below it, and the object before it comes first there
abbrev pub follows : Reading → List Place → ℕ → Bool
follows m places j = list_any (has_at m j) places && (j == 0 || comes_before m places (j - 1) j)

-- so it does, if it is there
abbrev pub follows_if_there : Indices → Reading → List Place → ℕ → Bool
follows_if_there at m places j = not (m.flag (live_relation at) j) || follows m places j

-- each object that is there follows the one before it
abbrev pub is_in_order : Posed → Indices → Reading → Bool
is_in_order p at m = list_all (λ j. follows_if_there at m (places_below p at j) j) (numbers_below p.scope.objects)

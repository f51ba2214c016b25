-- A walk along the tuples of a problem in their order, for the set of those that occur in a start. (This project's own.)
use Rattle.std.specs.Prelude.{◌≡◌, ℕ, ◌+◌, ◌≤◌, ◌<◌, ◌↔◌, nat_lt, if◌then◌else◌, List, length, drop, map, flat_map, Option, Some, None, option_and_then}
use Rattle.std.specs.List.{range_with_len}
use Rattle.std.specs.Option.{option_map_or}
use Rattle.heap_core.specs.declared.value.Value.{Value}
use Rattle.heap_core.specs.declared.value.Value.TheVariants.{Null, Obj}
use Rattle.heap_core.specs.declared.start.Start.{Start}
use Rattle.heap_core.specs.Posed.{Posed}
use Rattle.canonical_order.specs.declared.tuple.Tuple.{Tuple}
use Rattle.canonical_order.specs.declared.tuple.Tuple.TheVariants.{Field}
use Rattle.canonical_order.specs.Tuples.{targets, tuples}
use Rattle.tuple_sets.specs.Words.{has, gain}
use Rattle.tuple_sets.specs.Numbered.{word_count}
use Rattle.tuple_sets.specs.Occurring.{OccursAt}

-- the place of a value among the values of a tuple: null, then the objects below K
abbrev pub target_place : ℕ → Value → Option ℕ
target_place objects Null = Some 0
target_place objects (Obj o) = if nat_lt o objects then Some (o + 1) else None
target_place objects _ = None

-- the set with the tuple of this value, where the tuples from the number `first` on are those of one root, or of one
-- field of one object; without a value, or with one that no tuple has, the set stays
abbrev pub marked : ℕ → ℕ → Option Value → List ℕ → List ℕ
marked objects first v set = option_map_or (λ place. gain set (first + place)) (option_and_then (target_place objects) v) set

-- the tuples of one field: at each object below K, of null and of the objects
abbrev pub tuples_of_field : ℕ → ℕ → List Tuple
tuples_of_field objects f = flat_map (λ o. map (Field f o) (targets objects)) (range_with_len 0 objects)

-- of the tuples before the number `next`, the set has those that occur in the start; `left` are the others
pub record IsSetBefore (p : Posed) (s : Start) (next : ℕ) (left : List Tuple) (set : List ℕ) : Type 0 where
  pub as_many : length set ≡ word_count p
  pub few : length set ≤ 80
  pub left_is : drop next (tuples p) ≡ left
  pub exact : (t : ℕ) → (has set t ≡ 1) ↔ ((t < next) × OccursAt p s t)

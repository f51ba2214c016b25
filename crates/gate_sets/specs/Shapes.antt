-- Sets of references, relations between objects and graphs, where so many objects are looked at: a set is its tests,
-- first of null and then of the objects in order. (This project's own.)
use Rattle.std.specs.Prelude.{ℕ, ◌+◌, ◌-◌, ◌==◌, nat_lt, Bool, not, ◌&&◌, ◌||◌, List}
use Rattle.std.specs.List.{list_all, list_any, range_with_len}
use Rattle.gate_core.specs.declared.circuit.Node.{Node}
use Rattle.gate_arith.specs.Numbers.{differ}
use Rattle.heap_core.specs.Closure.{Graph, closure}
use Rattle.gate_sets.specs.Lists.{at, in_row}

-- the object is in the set: place 0 is null's
abbrev pub has_object : (ℕ → Bool) → ℕ → Bool
has_object set o = set (o + 1)

-- some of the rows that are chosen has the place
abbrev pub any_row : ℕ → (ℕ → Bool) → (ℕ → ℕ → Bool) → ℕ → Bool
any_row count chosen rows i = list_any (λ o. chosen o && rows o i) (range_with_len 0 count)

-- more than one of so many places is true
abbrev pub are_many : ℕ → (ℕ → Bool) → Bool
are_many count a = list_any (λ j. a j && list_any a (range_with_len 0 j)) (range_with_len 0 count)

-- the object is in the set of numbers, and no other below the bound is
abbrev pub is_only : ℕ → (ℕ → Bool) → ℕ → Bool
is_only count set o = set o && list_all (λ p. not (set p) || p == o) (range_with_len 0 count)

-- each of so many places that the first has, the second has
abbrev pub is_within : ℕ → (ℕ → Bool) → (ℕ → Bool) → Bool
is_within count a b = list_all (λ i. not (a i) || b i) (range_with_len 0 count)

-- two agree at each of so many places
abbrev pub are_same : ℕ → (ℕ → Bool) → (ℕ → Bool) → Bool
are_same count a b = list_all (λ i. not (differ (a i) (b i))) (range_with_len 0 count)

-- the edges between so many objects: a row for each object, with a place for each
abbrev pub edges : ℕ → List Node → List ℕ → (ℕ → Bool) → Graph
edges count nodes graph inputs p o = in_row count nodes graph inputs p o

-- the objects of these numbers as a set: not null
abbrev pub objects_only : (ℕ → Bool) → ℕ → Bool
objects_only numbers i = nat_lt 0 i && numbers (i - 1)

-- ## what the calls make, in these words

-- a set joined with a relation
abbrev pub joined_set : ℕ → List Node → List ℕ → List ℕ → (ℕ → Bool) → ℕ → Bool
joined_set count nodes set relation inputs i = any_row count (has_object (at nodes set inputs)) (in_row (count + 1) nodes relation inputs) i

-- what rows of this width have at the only object of a set
abbrev pub joined_only : ℕ → ℕ → List Node → List ℕ → List ℕ → (ℕ → Bool) → ℕ → Bool
joined_only count width nodes set rows inputs i = any_row count (λ o. is_only count (has_object (at nodes set inputs)) o) (in_row width nodes rows inputs) i

-- the edges of a graph, and those of a relation, whose rows begin with null's place
abbrev pub led_edges : ℕ → List Node → List ℕ → List ℕ → (ℕ → Bool) → Graph
led_edges count nodes graph relation inputs p o = in_row count nodes graph inputs p o || in_row (count + 1) nodes relation inputs p (o + 1)

-- the objects that are reached from those of a set
abbrev pub reached_set : ℕ → List Node → List ℕ → List ℕ → (ℕ → Bool) → ℕ → Bool
reached_set count nodes set graph inputs i = objects_only (closure (edges count nodes graph inputs) count (has_object (at nodes set inputs))) i

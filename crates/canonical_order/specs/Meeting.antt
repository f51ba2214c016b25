-- Going along the places of a start, the objects are to be met in number order. (This project's own.)
use Rattle.std.specs.Prelude.{ℕ, ◌+◌, ◌==◌, nat_lt, if◌then◌else◌, List, ◌∷◌, ◌++◌, fold, flat_map, Option, Some, None}
use Rattle.heap_core.specs.declared.value.Value.{Value}
use Rattle.heap_core.specs.declared.value.Value.TheVariants.{Obj}
use Rattle.heap_core.specs.declared.start.Start.{Start}

-- of n objects those below k were met: a value that is the object k is the next, an object above it stands
-- out of order, and all else changes nothing
abbrev pub met : ℕ → Option ℕ → Value → Option ℕ
met n (Some k) (Obj o) = if nat_lt o k then Some k else (if nat_lt o n then (if o == k then Some (k + 1) else None) else Some k)
met n (Some k) _ = Some k
met n None v = None

-- after these values
abbrev pub met_all : ℕ → Option ℕ → List Value → Option ℕ
met_all n = fold (met n)

-- the receiver, the arguments, and the fields of all objects in number order
abbrev pub places_in_order : Start → List Value
places_in_order s = s.this ∷ (s.args ++ flat_map (λ x. x.cells) s.objects)

-- The relations of a problem's tuples and their gates. (This project's own.)
use Rattle.std.specs.Prelude.{◌≡◌, ℕ, ◌+◌, ◌*◌, ◌<◌, ◌==◌, List, [], ◌∷◌, ◌++◌, map, take, slice_get, Option, Some, IsTrue, IsFalse}
use Rattle.std.specs.List.{slice_index_or}
use Rattle.std.specs.Option.{option_map_or}
use Rattle.gate_core.specs.declared.circuit.Node.{Node}
use Rattle.gate_core.specs.Circuit.{IsOf}
use Rattle.heap_core.specs.Posed.{Posed}
use Rattle.heap_core.specs.Start.{method_of}
use Rattle.canonical_order.specs.declared.tuple.Tuple.{Tuple}
use Rattle.canonical_order.specs.Tuples.{roots_of, links_of, tuples}
use Rattle.tuple_sets.specs.Words.{has}
use Rattle.rel_core.specs.declared.relation.RelVar.{RelVar}
use Rattle.rel_core.specs.declared.relation.What.TheVariants as what
use Rattle.rel_core.specs.Reading.{Reading, same_relation}
use Rattle.rel_core.specs.Uses.{Kinds, AsSet, has_use}
use Rattle.rel_gates.specs.Shown.{Named, gates_of, variable_of, rows_of, gate_count, has_tuple}
use Rattle.rel_gates.specs.Naming.{Wanted, wanted_one, wanted_each, AreInputs, IsSmall, IsNaming}
use Rattle.rel_gates.specs.Meant.{reference_at}

-- ## the relations of the tuples, in tuple order

abbrev pub slot_first : ℕ → RelVar
slot_first x = record { what = what.Slot x; index = 0 }

abbrev pub field_first : ℕ → RelVar
field_first f = record { what = what.Field f; index = 0 }

abbrev pub roots_in : Posed → List ℕ
roots_in p = option_map_or roots_of (method_of p) []

abbrev pub root_uses : Posed → Wanted
root_uses p = map (λ r. wanted_one p AsSet (slot_first (variable_of p r))) (roots_in p)

abbrev pub link_uses : Posed → Wanted
link_uses p = map (λ f. wanted_each p AsSet (field_first f)) (links_of p.unit)

abbrev pub tuple_uses : Posed → Wanted
tuple_uses p = root_uses p ++ link_uses p

-- the gates that uses want in all
abbrev pub total : Wanted → ℕ
total [] = 0
total (x ∷ xs) = x.1 + total xs

-- the tuple of a place says whether a relation has a reference at an object
pub record IsTupleAt (p : Posed) (place : ℕ) (r : RelVar) (o i : ℕ) : Type 0 where
  pub tuple : Tuple
  pub there : slice_get (tuples p) place ≡ Some tuple
  pub says : (m : Reading) → has_tuple p m tuple ≡ m.refs r o (reference_at i)

-- the gates of a use are those of the tuples from a place on
pub record IsTupleUse (p : Posed) (kinds : Kinds) (first : ℕ) (x : RelVar × ℕ) : Type 0 where
  pub used : IsTrue (has_use p kinds AsSet x.0.what)
  pub counted : x.1 ≡ gate_count p AsSet x.0
  pub places : (o i : ℕ) → o < rows_of p x.0.what → i < p.scope.objects + 1 → IsTupleAt p (first + (o * (p.scope.objects + 1) + i)) x.0 o i

-- no relation is listed twice
abbrev pub AreApart : Wanted → Type 0
AreApart xs =
    (i k : ℕ) (x y : RelVar × ℕ) → i < k → slice_get xs i ≡ Some x → slice_get xs k ≡ Some y → IsFalse (same_relation x.0 y.0)

-- so are those of each use of a list, one behind the other
pub record AreTupleUses (p : Posed) (kinds : Kinds) (wanted : Wanted) : Type 0 where
  pub apart : AreApart wanted
  pub uses : (i : ℕ) (x : RelVar × ℕ) → slice_get wanted i ≡ Some x → IsTupleUse p kinds (total (take i wanted)) x

-- ## their gates

-- so many gates are those of a list from a place on
pub record AreGatesFrom (all : List ℕ) (first count : ℕ) (found : Option (List ℕ)) : Type 0 where
  pub gates : List ℕ
  pub there : found ≡ Some gates
  pub same : (j : ℕ) → j < count → slice_index_or gates j 0 ≡ slice_index_or all (first + j) 0

-- a relation is named by the inputs of tuples, which are put behind other gates
pub record NamesTuple (old new : List Node) (es fs : Named) (upper all longer : List ℕ) (first : ℕ) (x : RelVar × ℕ) : Type 0 where
  pub gates : List ℕ
  pub inputs : AreInputs old new x.1 (λ j. has upper (first + j) == 1) gates
  pub behind : longer ≡ all ++ gates
  pub named : fs ≡ es ++ (x.0, gates) ∷ []

-- the first relations of a list are named by the inputs of tuples, one behind the other
pub record NamesTuples (before after : List Node) (upper : List ℕ) (wanted : Wanted) (count : ℕ) (es : Named) (all : List ℕ) : Type 0 where
  pub inputs : AreInputs before after (total (take count wanted)) (λ t. has upper t == 1) all
  pub names : map (λ e. e.0) es ≡ map (λ x. x.0) (take count wanted)
  pub found : AreApart wanted → (i : ℕ) (x : RelVar × ℕ) → i < count → slice_get wanted i ≡ Some x → AreGatesFrom all (total (take i wanted)) x.1 (gates_of es x.0)
  pub naming : (p : Posed) (kinds : Kinds) → IsSmall p → IsOf before 0 → AreTupleUses p kinds wanted → IsNaming p kinds upper before after es

-- What the circuit of a formula is. (This project's own.)
use Rattle.std.specs.Prelude.{◌≡◌, ℕ, ◌<◌, Bool, true, List, length, IsTrue, ◌≢◌}
use Rattle.std.specs.List.{slice_index_or}
use Rattle.gate_core.specs.declared.circuit.Node.{Node}
use Rattle.gate_core.specs.Circuit.{value}
use Rattle.heap_core.specs.Posed.{Posed}
use Rattle.canonical_order.specs.Tuples.{tuples}
use Rattle.tuple_sets.specs.Words.{has}
use Rattle.rel_core.specs.declared.formula.Formula.{Formula}
use Rattle.rel_core.specs.Reading.{Reading}
use Rattle.rel_core.specs.Meaning.{holds}
use Rattle.rel_core.specs.Uses.{Kinds, GivesStart, is_sorted, IsOf as IsOfProblem}
use Rattle.rel_gates.specs.Shown.{Named, reading_shown, Agrees}
use Rattle.rel_gates.specs.Naming.{IsWithin, IsShown, IsOwn}

-- kinds by which the formula is sorted, and which the parameters and the receiver have
pub record AreKinds (p : Posed) (f : Formula) (kinds : Kinds) : Type 0 where
  pub start : GivesStart p kinds
  pub sorted : IsTrue (is_sorted p kinds f)

-- the gate of a formula and the named relations, where the kinds are those by which the formula is sorted
pub record IsBuilt (p : Posed) (kinds : Kinds) (f : Formula) (upper : List ℕ) (old new : List Node) (es : Named) (gate : ℕ) : Type 0 where
  -- under every reading of the problem that the inputs show, the gate has the formula's truth
  pub exact : (m : Reading) (inputs : ℕ → Bool) → IsOfProblem p kinds m → Agrees p kinds (value inputs new) es m → value inputs new gate ≡ holds f m
  -- where the gate is true, the reading that is shown is one of the problem, and holds only tuples of the set
  pub told : (inputs : ℕ → Bool) → value inputs new gate ≡ true → IsWithin p kinds upper (reading_shown p kinds (value inputs new) es)
  -- every such reading is shown, whatever the nodes had that stood
  pub shown : (m : Reading) (before : ℕ → Bool) → IsWithin p kinds upper m → IsShown p kinds old new es before m

-- the gates of the tuples: each tuple of the set has an input of its own, and every other one has gate 0
pub record AreTupleGates (p : Posed) (upper : List ℕ) (old new : List Node) (gates : List ℕ) : Type 0 where
  pub wide : length gates ≡ length (tuples p)
  pub own : (t : ℕ) → t < length (tuples p) → has upper t ≡ 1 → IsOwn old new (slice_index_or gates t 0)
  pub apart : (t u : ℕ) → t < u → u < length (tuples p) → has upper t ≡ 1 → slice_index_or gates t 0 ≢ slice_index_or gates u 0
  pub lacking : (t : ℕ) → t < length (tuples p) → has upper t ≢ 1 → slice_index_or gates t 0 ≡ 0

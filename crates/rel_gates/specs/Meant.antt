-- The gates of sets, numbers and formulas: what they have under each reading that the inputs show. (This project's
-- own.)
use Rattle.std.specs.Prelude.{◌≡◌, ℕ, zero, suc, ◌+◌, ◌*◌, ◌<◌, Bool, List, length, Some, All, IsTrue}
use Rattle.std.specs.List.{slice_index_or, list_all}
use Rattle.gate_core.specs.declared.circuit.Node.{Node}
use Rattle.gate_core.specs.Circuit.{value, IsOf}
use Rattle.heap_core.specs.declared.value.Value.{Value}
use Rattle.heap_core.specs.declared.value.Value.TheVariants.{Null, Obj}
use Rattle.heap_core.specs.Posed.{Posed}
use Rattle.rel_core.specs.declared.relation.RelVar.{RelVar}
use Rattle.rel_core.specs.declared.sets.RelExpr.{RelExpr}
use Rattle.rel_core.specs.declared.formula.Formula.{Formula}
use Rattle.rel_core.specs.declared.formula.Formula.TheVariants.{Subset}
use Rattle.rel_core.specs.Reading.{Reading}
use Rattle.rel_core.specs.Meaning.{set_of, holds, leads}
use Rattle.rel_core.specs.Uses.{Kinds, AsSet, is_spread, is_sorted_set, is_sorted, IsOf as IsOfProblem}
use Rattle.rel_gates.specs.Shown.{Named, gates_of, in_row, Agrees}

-- the gates of named relations are of the circuit
abbrev pub Stand : List Node → Named → Type 0
Stand nodes es = (r : RelVar) (gates : List ℕ) → gates_of es r ≡ Some gates → All (IsOf nodes) gates

-- the reference of a place in a set's gates
abbrev pub reference_at : ℕ → Value
reference_at zero = Null
reference_at (suc o) = Obj o

-- a reading of the problem that the inputs show
pub record IsSeen (p : Posed) (kinds : Kinds) (nodes : List Node) (es : Named) (inputs : ℕ → Bool) (m : Reading) : Type 0 where
  pub of_problem : IsOfProblem p kinds m
  pub agrees : Agrees p kinds (value inputs nodes) es m

-- the gates of a set: each is true exactly where its reference is in the set
pub record AreSet (p : Posed) (es : Named) (nodes : List Node) (e : RelExpr) (gates : List ℕ) : Type 0 where
  pub of : All (IsOf nodes) gates
  pub wide : length gates ≡ p.scope.objects + 1
  pub values : (kinds : Kinds) (m : Reading) (inputs : ℕ → Bool) → IsTrue (is_sorted_set p kinds e) → IsSeen p kinds nodes es inputs m
      → (i : ℕ) → i < p.scope.objects + 1 → value inputs nodes (slice_index_or gates i 0) ≡ set_of e m (reference_at i)

-- the gate of a formula
pub record IsTruthOf (p : Posed) (es : Named) (nodes : List Node) (f : Formula) (gate : ℕ) : Type 0 where
  pub of : IsOf nodes gate
  pub truth : (kinds : Kinds) (m : Reading) (inputs : ℕ → Bool) → IsTrue (is_sorted p kinds f) → IsSeen p kinds nodes es inputs m → value inputs nodes gate ≡ holds f m

-- the edges of relations: from an object to another wherever one of them leads so
pub record AreEdges (p : Posed) (es : Named) (nodes : List Node) (rs : List RelVar) (graph : List ℕ) : Type 0 where
  pub of : All (IsOf nodes) graph
  pub long : length graph ≡ p.scope.objects * p.scope.objects
  pub values : (kinds : Kinds) (m : Reading) (inputs : ℕ → Bool) → IsTrue (list_all (is_spread p kinds AsSet) rs) → IsSeen p kinds nodes es inputs m
      → (q o : ℕ) → q < p.scope.objects → o < p.scope.objects → in_row (value inputs nodes) p.scope.objects graph q o ≡ leads m rs q o

-- the gate tells of any two sets with these gates whether the first is in the second
abbrev pub IsSubset : Posed → Named → List Node → List Node → List ℕ → List ℕ → ℕ → Type 0
IsSubset p es old new inner outer gate =
    (d e : RelExpr) → AreSet p es old d inner → AreSet p es old e outer → IsTruthOf p es new (Subset d e) gate

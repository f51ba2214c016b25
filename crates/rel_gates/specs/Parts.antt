-- The gates of parts of a formula. (This project's own.)
use Rattle.std.specs.Prelude.{◌≡◌, ℕ, List, length, slice_get, Some, All}
use Rattle.std.specs.List.{slice_index_or}
use Rattle.gate_core.specs.declared.circuit.Node.{Node}
use Rattle.gate_core.specs.Circuit.{IsOf}
use Rattle.heap_core.specs.Posed.{Posed}
use Rattle.rel_core.specs.declared.formula.Formula.{Formula}
use Rattle.rel_gates.specs.Shown.{Named}
use Rattle.rel_gates.specs.Meant.{IsTruthOf}

-- a gate for each part of a formula, in order
pub record AreTruthsOf (p : Posed) (es : Named) (nodes : List Node) (fs : List Formula) (gates : List ℕ) : Type 0 where
  pub of : All (IsOf nodes) gates
  pub wide : length gates ≡ length fs
  pub truths : (i : ℕ) (f : Formula) → slice_get fs i ≡ Some f → IsTruthOf p es nodes f (slice_index_or gates i 0)

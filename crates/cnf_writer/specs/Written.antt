-- The clauses of a circuit: the variable of a node is its place. (G. S. Tseitin, "On the Complexity of Derivation in
-- Propositional Calculus".)
use Rattle.std.specs.Prelude.{◌≡◌, ℕ, ◌-◌, ◌*◌, ◌<◌, Bool, true, List, length, All, slice_get, Some}
use Rattle.gate_core.specs.declared.circuit.Node.{Node}
use Rattle.gate_core.specs.declared.circuit.Node.TheVariants.{And}
use Rattle.gate_core.specs.Circuit.{value, node_of, StandsAt}
use Rattle.cnf_core.specs.Clauses.{Clauses}
use Rattle.cnf_core.specs.Truth.{Satisfies}

-- a node at a root's edge, or at an edge of a conjunction that is below the roots
pub data IsBelow (nodes : List Node) (roots : List ℕ) : ℕ → Type 0 where
  root : (i gate : ℕ) → slice_get roots i ≡ Some gate → IsBelow nodes roots (node_of gate)
  left : (place a b : ℕ) → IsBelow nodes roots place → StandsAt nodes (And a b) place → IsBelow nodes roots (node_of a)
  right : (place a b : ℕ) → IsBelow nodes roots place → StandsAt nodes (And a b) place → IsBelow nodes roots (node_of b)

-- the assignment that gives each node its value under the inputs
abbrev pub values_of : (ℕ → Bool) → List Node → ℕ → Bool
values_of inputs nodes place = value inputs nodes (2 * place)

-- the formula of a circuit with these roots
pub record IsWritten (nodes : List Node) (roots : List ℕ) (cnf : Clauses) : Type 0 where
  pub vars : cnf.vars ≡ length nodes - 1
  -- an assignment that satisfies it gives each node below the roots its value under the inputs that it shows
  pub told : (values : ℕ → Bool) → Satisfies values cnf.clauses → (place : ℕ) → 0 < place → IsBelow nodes roots place → values place ≡ value values nodes (2 * place)
  -- and all roots are true then
  pub roots_true : (values : ℕ → Bool) → Satisfies values cnf.clauses → All (λ root. value values nodes root ≡ true) roots
  -- where all roots are true, the values of the nodes satisfy it
  pub satisfied : (inputs : ℕ → Bool) → All (λ root. value inputs nodes root ≡ true) roots → Satisfies (values_of inputs nodes) cnf.clauses

-- How the arena finds a conjunction: by chains of nodes of one hash, linked from each to the nearest one before it.
use Rattle.std.specs.Prelude.{◌≡◌, ℕ, ◌+◌, ◌*◌, ◌%◌, ◌<◌, List, length, map, slice_get, slice_index, Some, ◌≢◌}
use Rattle.gate_core.specs.declared.circuit.Node.{Node}
use Rattle.gate_core.specs.declared.circuit.Node.TheVariants.{And}
use Rattle.gate_core.specs.declared.arena.Cell.{Cell}
use Rattle.gate_core.specs.Circuit.{StandsAt, IsCircuit}

-- the chain of a conjunction, where there are so many chains
unfoldable pub chain_of : ℕ → ℕ → ℕ → ℕ
chain_of count a b = (a * 2654435761 + b) % count

-- the place holds a conjunction of the chain
pub record IsInChain (count chain : ℕ) (nodes : List Node) (place : ℕ) : Type 0 where
  pub a : ℕ
  pub b : ℕ
  pub stands : StandsAt nodes (And a b) place
  pub chained : chain_of count a b ≡ chain

-- the nodes of the cells
abbrev pub nodes_of : List Cell → List Node
nodes_of cells = map (λ cell. cell.node) cells

-- the place is that of the last conjunction of the chain below the bound, or 0 where there is none
pub record IsLast (count chain : ℕ) (nodes : List Node) (bound place : ℕ) : Type 0 where
  pub below : 0 < place → place < bound
  pub here : 0 < place → IsInChain count chain nodes place
  pub none : (other a b : ℕ) → place < other → other < bound → StandsAt nodes (And a b) other → chain_of count a b ≢ chain

-- each cell with a conjunction, below the bound, links to the conjunction of its chain that is the last before it
abbrev pub IsLinked : ℕ → List Cell → ℕ → Type 0
IsLinked count cells bound =
    (place : ℕ) (cell : Cell) (a b : ℕ) → place < bound → slice_get cells place ≡ Some cell → cell.node ≡ And a b
    → IsLast count (chain_of count a b) (nodes_of cells) place cell.next

-- each head is the last conjunction of its chain below the bound
abbrev pub AreHeads : List ℕ → List Node → ℕ → Type 0
AreHeads heads nodes bound =
    (chain : ℕ) → chain < length heads → IsLast (length heads) chain nodes bound (slice_index heads chain)

-- the chains, read from their heads along the links, pass each conjunction below the bound once
pub record IsChained (cells : List Cell) (heads : List ℕ) (bound : ℕ) : Type 0 where
  pub some : 0 < length heads
  pub at_heads : AreHeads heads (nodes_of cells) bound
  pub linked : IsLinked (length heads) cells bound

-- the cells hold a circuit, and the chains pass each of its conjunctions
pub record IsArena (cells : List Cell) (heads : List ℕ) : Type 0 where
  pub circuit : IsCircuit (nodes_of cells)
  pub chained : IsChained cells heads (length cells)

-- What a circuit is: a list of nodes, and the truth values that they have under those of the inputs.
use Rattle.std.specs.Prelude.{◌≡◌, ℕ, ◌+◌, ◌*◌, ◌/◌, ◌%◌, ◌^◌, ◌<◌, ◌≤◌, ◌==◌, Bool, false, not, ◌&&◌, ◌||◌, if◌then◌else◌, List, [], ◌∷◌, ◌++◌, length, slice_get, Option, Some, None, MatchOption, min, max, ◌⊎◌}
use Rattle.std.specs.List.{slice_index_or}
use Rattle.gate_core.specs.declared.circuit.Node.{Node}
use Rattle.gate_core.specs.declared.circuit.Node.TheVariants.{Zero, Input, And}

-- the node at the end of a gate's edge
abbrev pub node_of : ℕ → ℕ
node_of gate = gate / 2

-- the edge of a gate negates
abbrev pub is_negated : ℕ → Bool
is_negated gate = gate % 2 == 1

-- the gate whose value is the other one
abbrev pub negation : ℕ → ℕ
negation gate = if is_negated gate then 2 * node_of gate else 2 * node_of gate + 1

-- the value of a gate, where the nodes have these values: that of its node, negated at the edge
abbrev pub gate_value : List Bool → ℕ → Bool
gate_value values gate = if is_negated gate then not (slice_index_or values (node_of gate) false) else slice_index_or values (node_of gate) false

-- the value of a node behind nodes with these values; an input's own is given by its place
abbrev pub node_value : (ℕ → Bool) → List Bool → Node → Bool
node_value inputs before Zero = false
node_value inputs before Input = inputs (length before)
node_value inputs before (And a b) = gate_value before a && gate_value before b

-- the values of the nodes in order, behind nodes with these values: each from those before it
unfoldable pub values_behind : (ℕ → Bool) → List Bool → List Node → List Bool
values_behind inputs before [] = before
values_behind inputs before (node ∷ nodes) = values_behind inputs (before ++ node_value inputs before node ∷ []) nodes

-- the value of a gate of a circuit under truth values of its inputs
unfoldable pub value : (ℕ → Bool) → List Node → ℕ → Bool
value inputs nodes gate = gate_value (values_behind inputs [] nodes) gate

-- the node stands at the place
abbrev pub StandsAt : List Node → Node → ℕ → Type 0
StandsAt nodes node place = slice_get nodes place ≡ Some node

-- two assignments agree at the inputs below a gate: at those with places up to its node's
abbrev pub AgreeBelow : List Node → ℕ → (ℕ → Bool) → (ℕ → Bool) → Type 0
AgreeBelow nodes gate inputs others = (place : ℕ) → place ≤ node_of gate → StandsAt nodes Input place → inputs place ≡ others place

-- the value of a gate hangs on the inputs below it alone
abbrev pub InputsBelowDecide : Type 0
InputsBelowDecide =
    (nodes : List Node) (gate : ℕ) (inputs others : ℕ → Bool) → AgreeBelow nodes gate inputs others → value inputs nodes gate ≡ value others nodes gate

-- the gate is an edge of the circuit
abbrev pub IsOf : List Node → ℕ → Type 0
IsOf nodes gate = gate < 2 * length nodes

-- the nodes stand, with further ones behind them, and each gate has the value that it had
pub record Keeps (old new : List Node) : Type 0 where
  pub more : List Node
  pub behind : new ≡ old ++ more
  pub values : (inputs : ℕ → Bool) (gate : ℕ) → IsOf old gate → value inputs new gate ≡ value inputs old gate

-- the gate of a conjunction that needs no node: a constant side, two equal sides, or a side and its negation
abbrev pub simplified : ℕ → ℕ → Option ℕ
simplified a b =
    if (a == 0) || (b == 0) || (a == negation b) then Some 0
    else (if (a == 1) || (a == b) then Some b else (if b == 1 then Some a else None))

-- the node of a conjunction: its sides in rising order, so that the order of the call does not matter
abbrev pub conjunction : ℕ → ℕ → Node
conjunction a b = And (min a b) (max a b)

-- the gate is that of the conjunction: the simplified one, or the edge to the node that holds it
abbrev pub IsConjunction : List Node → ℕ → ℕ → ℕ → Type 0
IsConjunction nodes a b gate =
    MatchOption (simplified a b) ((place : ℕ) × (gate ≡ 2 * place) × StandsAt nodes (conjunction a b) place) (λ known. gate ≡ known)

-- what every circuit keeps: node 0 alone is the constant, a conjunction is of gates before it that are no constants, and no
-- conjunction stands twice
pub record IsCircuit (nodes : List Node) : Type 0 where
  pub first : StandsAt nodes Zero 0
  pub only : (place : ℕ) → StandsAt nodes Zero place → place ≡ 0
  pub earlier : (place a b : ℕ) → StandsAt nodes (And a b) place → (a < 2 * place) × (b < 2 * place)
  pub free : (place a b : ℕ) → StandsAt nodes (And a b) place → (1 < a) × (1 < b)
  pub once : (place other a b : ℕ) → StandsAt nodes (And a b) place → StandsAt nodes (And a b) other → place ≡ other
  pub few : length nodes ≤ 2 ^ 31

-- the node may be put behind these: a conjunction is of gates of theirs that are no constants, and does not stand among
-- them
pub record MayFollow (nodes : List Node) (node : Node) : Type 0 where
  pub no_constant : node ≡ Zero → ⊥
  pub earlier : (a b : ℕ) → node ≡ And a b → (a < 2 * length nodes) × (b < 2 * length nodes)
  pub free : (a b : ℕ) → node ≡ And a b → (1 < a) × (1 < b)
  pub new : (a b : ℕ) → node ≡ And a b → (place : ℕ) → StandsAt nodes (And a b) place → ⊥

-- the circuit stays, or the node, which stood nowhere, is put behind it
abbrev pub PutsOnce : List Node → List Node → Node → Type 0
PutsOnce old new node = (new ≡ old) ⊎ (((place : ℕ) → StandsAt old node place → ⊥) × (new ≡ old ++ node ∷ []))

-- what a conjunction adds: nothing where it is simplified, else its node at most
abbrev pub Joins : ℕ → ℕ → List Node → List Node → Type 0
Joins a b old new = MatchOption (simplified a b) (PutsOnce old new (conjunction a b)) (λ known. new ≡ old)

-- the gate is the conjunction of two gates in the circuit that grew for it
pub record IsJoined (old new : List Node) (a b gate : ℕ) : Type 0 where
  pub value : (inputs : ℕ → Bool) → value inputs new gate ≡ value inputs old a && value inputs old b
  pub of : IsOf new gate
  pub gate_is : IsConjunction new a b gate
  pub nodes : Joins a b old new
  pub keeps : Keeps old new

-- pairs that are equal but for their order have one gate, at whatever time they are asked
abbrev pub PairsHaveOneGate : Type 0
PairsHaveOneGate =
    (nodes more : List Node) (a b gate other : ℕ) → IsCircuit (nodes ++ more)
    → IsConjunction nodes a b gate → IsConjunction (nodes ++ more) b a other → gate ≡ other

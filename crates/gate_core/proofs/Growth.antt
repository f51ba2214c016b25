-- A circuit and its chains, when a node is put behind the others.
use Rattle.std.proofs.Common.{◌≡◌, ℕ, ◌+◌, ◌*◌, ◌^◌, ◌<◌, ◌≤◌, List, [], ◌∷◌, ◌++◌, length, sym, ap, ◌∙◌, subst, arith, inl, inr, length-append}
use Rattle.std.specs.Prelude.{slice_index}
use Rattle.std.proofs.lemmas.List.{length-map, map-append}
use Rattle.gate_core.specs.declared.circuit.Node.{Node}
use Rattle.gate_core.specs.declared.circuit.Node.TheVariants.{Zero, And}
use Rattle.gate_core.specs.declared.arena.Cell.{Cell}
use Rattle.gate_core.specs.Circuit.{IsCircuit, MayFollow}
use Rattle.gate_core.specs.Chains.{chain_of, nodes_of, IsChained, IsArena, IsLast, IsInChain}
use Rattle.gate_core.proofs.Places.{slice_get-append, slice_get-append_left, slice_get-push}

pub circuit-push : (nodes : List Node) (node : Node) → IsCircuit nodes → MayFollow nodes node → length nodes < 2 ^ 31 → IsCircuit (nodes ++ node ∷ [])
circuit-push nodes node circuit may few = record {
  first = slice_get-append nodes (node ∷ []) 0 Zero circuit.first;
  only = λ place at. elim (slice_get-push nodes node Zero place at) [
    | inl before ↦ circuit.only place before
    | inr here ↦ absurd (may.no_constant (sym here.1))
  ];
  earlier = λ place a b at. elim (slice_get-push nodes node (And a b) place at) [
    | inl before ↦ circuit.earlier place a b before
    | inr here ↦ subst (λ p. (a < 2 * p) × (b < 2 * p)) (sym here.0) (may.earlier a b (sym here.1))
  ];
  free = λ place a b at. elim (slice_get-push nodes node (And a b) place at) [
    | inl before ↦ circuit.free place a b before
    | inr here ↦ may.free a b (sym here.1)
  ];
  once = λ place other a b at there. elim (slice_get-push nodes node (And a b) place at) [
    | inl before ↦ elim (slice_get-push nodes node (And a b) other there) [
      | inl too ↦ circuit.once place other a b before too
      | inr here ↦ absurd (may.new a b (sym here.1) place before)
    ]
    | inr here ↦ elim (slice_get-push nodes node (And a b) other there) [
      | inl before ↦ absurd (may.new a b (sym here.1) other before)
      | inr too ↦ (here.0 ∙ sym too.0)
    ]
  ];
  few = omega (arith, length-append nodes (node ∷ []));
}

-- a chain below a bound does not see what is put behind it
pub last-append : (count chain : ℕ) (nodes more : List Node) (bound place : ℕ) → bound ≤ length nodes → IsLast count chain nodes bound place
    → IsLast count chain (nodes ++ more) bound place
last-append count chain nodes more bound place within last = record {
  below = last.below;
  here = λ some. (let in_chain : IsInChain count chain nodes place = last.here some in
      record { a = in_chain.a; b = in_chain.b; stands = slice_get-append nodes more place (And in_chain.a in_chain.b) in_chain.stands; chained = in_chain.chained });
  none = λ other a b behind before at.
      last.none other a b behind before (sym (slice_get-append_left nodes more other (omega arith)) ∙ at);
}

pub chained-push : (cells : List Cell) (heads : List ℕ) (cell : Cell) → IsChained cells heads (length cells) → IsChained (cells ++ cell ∷ []) heads (length cells)
chained-push cells heads cell chained =
    let nodes : nodes_of (cells ++ cell ∷ []) ≡ nodes_of cells ++ cell.node ∷ [] = map-append (λ (c : Cell). c.node) cells (cell ∷ []) in
    let count : length (nodes_of cells) ≡ length cells = length-map cells (λ (c : Cell). c.node) in
    record {
      some = chained.some;
      at_heads = λ k less. subst (λ ns. IsLast (length heads) k ns (length cells) (slice_index heads k)) (sym nodes)
          (last-append (length heads) k (nodes_of cells) (cell.node ∷ []) (length cells) (slice_index heads k) (omega arith) (chained.at_heads k less));
      linked = λ place old a b before at is. subst (λ ns. IsLast (length heads) (chain_of (length heads) a b) ns place old.next) (sym nodes)
          (last-append (length heads) (chain_of (length heads) a b) (nodes_of cells) (cell.node ∷ []) place old.next (omega arith)
          (chained.linked place old a b before (sym (slice_get-append_left cells (cell ∷ []) place before) ∙ at) is));
    }

-- no cell is chained at first
pub unchained : (cells : List Cell) (heads : List ℕ) → 0 < length heads → ((chain : ℕ) → slice_index heads chain ≡ 0) → IsChained cells heads 0
unchained cells heads some empty = record {
  some = some;
  at_heads = λ k less. record {
    below = λ behind. absurd (omega (arith, empty k));
    here = λ behind. absurd (omega (arith, empty k));
    none = λ other a b behind before at. absurd (omega arith);
  };
  linked = λ place cell a b before at is. absurd (omega arith);
}

-- a circuit with a node behind it, whose cell is linked
pub arena-push : (cells linked : List Cell) (heads wider : List ℕ) (cell : Cell) (old : List Node) → IsArena cells heads → nodes_of cells ≡ old → MayFollow old cell.node → length cells < 2 ^ 31
    → nodes_of linked ≡ nodes_of (cells ++ cell ∷ []) → IsChained linked wider (length cells + 1) → IsArena linked wider
arena-push cells linked heads wider cell old arena same may few nodes chained =
    let count : length (nodes_of cells) ≡ length cells = length-map cells (λ (c : Cell). c.node) in
    let grown : length (nodes_of linked) ≡ length (nodes_of (cells ++ cell ∷ [])) = ap length nodes in
    let all : length linked ≡ length cells + 1 =
    omega (arith, length-map linked (λ (c : Cell). c.node), length-map (cells ++ cell ∷ []) (λ (c : Cell). c.node), length-append cells (cell ∷ [])) in
    record {
      circuit = subst IsCircuit (sym (nodes ∙ map-append (λ (c : Cell). c.node) cells (cell ∷ [])))
          (circuit-push (nodes_of cells) cell.node arena.circuit (subst (λ ns. MayFollow ns cell.node) (sym same) may) (omega arith));
      chained = subst (λ n. IsChained linked wider n) (sym all) chained;
    }

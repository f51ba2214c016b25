-- The walk along a chain passes every conjunction of its hash.
use Rattle.std.proofs.Common.{◌≡◌, ℕ, ◌<◌, List, length, refl, sym, ◌∙◌, subst, arith, inl, inr}
use Rattle.std.specs.Prelude.{Some, slice_get, slice_index}
use Rattle.std.proofs.lemmas.Option.{slice_get-map, slice_get_within, same_Some}
use Rattle.std.proofs.lemmas.List.{length-map}
use Rattle.std.proofs.lemmas.Bool.{cases_lt}
use Rattle.gate_core.specs.declared.circuit.Node.{Node}
use Rattle.gate_core.specs.declared.circuit.Node.TheVariants.{Zero, And}
use Rattle.gate_core.specs.declared.arena.Cell.{Cell}
use Rattle.gate_core.specs.Circuit.{StandsAt}
use Rattle.gate_core.specs.Chains.{chain_of, nodes_of, IsArena, IsLast, IsInChain}

-- what the walk for a conjunction knows at a place of its chain: the conjunction stands nowhere behind it
pub record IsSought (cells : List Cell) (count a b place : ℕ) : Type 0 where
  pub within : place < length cells
  pub none : (other : ℕ) → place < other → StandsAt (nodes_of cells) (And a b) other → ⊥
  pub chained : 0 < place → IsInChain count (chain_of count a b) (nodes_of cells) place

-- a node stands where its cell does
pub stands : (cells : List Cell) (place : ℕ) (cell : Cell) → slice_get cells place ≡ Some cell → StandsAt (nodes_of cells) cell.node place
stands cells place cell is = grind (arith, slice_get-map (λ (c : Cell). c.node) cells place)

pub stands_within : (cells : List Cell) (place : ℕ) (node : Node) → StandsAt (nodes_of cells) node place → place < length cells
stands_within cells place node is = omega (arith, slice_get_within (nodes_of cells) place node is, length-map cells (λ (c : Cell). c.node))

-- the head of the chain
pub begins : (cells : List Cell) (heads : List ℕ) (a b place : ℕ) → IsArena cells heads → chain_of (length heads) a b < length heads
    → place ≡ slice_index heads (chain_of (length heads) a b) → IsSought cells (length heads) a b place
begins cells heads a b place arena within is =
    let last : IsLast (length heads) (chain_of (length heads) a b) (nodes_of cells) (length cells) (slice_index heads (chain_of (length heads) a b)) =
    arena.chained.at_heads (chain_of (length heads) a b) within in
    let last' = subst (λ p. IsLast (length heads) (chain_of (length heads) a b) (nodes_of cells) (length cells) p) (sym is) last in
    record {
      within = grind (arith, stands_within cells 0 Zero arena.circuit.first, last'.below);
      none = λ other behind at. last'.none other a b behind (stands_within cells other (And a b) at) at refl;
      chained = last'.here;
    }

-- the next one, where this one is another conjunction
pub goes_on : (cells : List Cell) (heads : List ℕ) (a b place : ℕ) (cell : Cell) → IsArena cells heads → IsSought cells (length heads) a b place → 0 < place
    → slice_get cells place ≡ Some cell → (cell.node ≡ And a b → ⊥)
    → IsSought cells (length heads) a b cell.next × (cell.next < place)
goes_on cells heads a b place cell arena sought some is other =
    let in_chain : IsInChain (length heads) (chain_of (length heads) a b) (nodes_of cells) place = sought.chained some in
    let node : cell.node ≡ And in_chain.a in_chain.b = same_Some cell.node (And in_chain.a in_chain.b) (sym (stands cells place cell is) ∙ in_chain.stands) in
    let last = arena.chained.linked place cell in_chain.a in_chain.b sought.within is node in
    let last' = subst (λ k. IsLast (length heads) k (nodes_of cells) place cell.next) in_chain.chained last in
    let below = last'.below in
    let within = sought.within in (
      record {
        within = grind (arith, last'.below);
        none = λ o behind at. elim (cases_lt o place) [
          | inl before ↦ last'.none o a b behind before at refl
          | inr from ↦ elim (cases_lt place o) [
            | inl after ↦ sought.none o after at
            | inr up_to ↦ (let here : o ≡ place = omega arith in other (same_Some cell.node (And a b) (sym (stands cells place cell is) ∙ subst (λ p. StandsAt (nodes_of cells) (And a b) p) here at)))
          ]
        ];
        chained = last'.here;
      },
      grind (arith, last'.below),
    )

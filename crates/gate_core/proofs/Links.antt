-- A cell is put at the head of its chain, and every chain still passes each of its conjunctions once.
use Rattle.std.proofs.Common.{◌≡◌, ◌≢◌, ℕ, ◌+◌, ◌<◌, List, length, refl, sym, ap, ◌∙◌, subst, arith, inl, inr}
use Rattle.std.specs.Prelude.{Some, slice_get, slice_index, slice_set}
use Rattle.std.proofs.lemmas.Option.{slice_get_within, same_Some, get_or_from_slice_get, slice_get_read}
use Rattle.std.proofs.Math.Seq.{map-set_same}
use Rattle.std.proofs.lemmas.List.{get_or-set_same, get_or-set_other, length-set}
use Rattle.std.proofs.lemmas.Bool.{cases_lt, cases_eq}
use Rattle.gate_core.specs.declared.circuit.Node.{Node}
use Rattle.gate_core.specs.declared.circuit.Node.TheVariants.{Zero, Input, And}
use Rattle.gate_core.specs.declared.arena.Cell.{Cell}
use Rattle.gate_core.specs.Circuit.{StandsAt}
use Rattle.gate_core.specs.Chains.{chain_of, nodes_of, IsChained, AreHeads, IsLinked, IsLast}
use Rattle.gate_core.proofs.Search.{stands}

-- a bound that grows over a place which holds no conjunction of the chain
pub last_more : (count chain : ℕ) (nodes : List Node) (bound place : ℕ) → IsLast count chain nodes bound place
    → ((a b : ℕ) → StandsAt nodes (And a b) bound → chain_of count a b ≢ chain) → IsLast count chain nodes (bound + 1) place
last_more count chain nodes bound place last other = record {
  below = λ some. grind (arith, last.below some);
  here = last.here;
  none = λ q a b behind within at. elim (cases_lt q bound) [
    | inl before ↦ last.none q a b behind before at
    | inr from ↦ (let here : q ≡ bound = omega arith in other a b (subst (λ p. StandsAt nodes (And a b) p) here at))
  ];
}

-- the place itself is the last of its chain
pub last_here : (count : ℕ) (nodes : List Node) (a b place : ℕ) → StandsAt nodes (And a b) place → IsLast count (chain_of count a b) nodes (place + 1) place
last_here count nodes a b place at = record {
  below = λ some. omega arith;
  here = λ some. record { a = a; b = b; stands = at; chained = refl };
  none = λ q a' b' behind within there same. absurd (omega arith);
}

-- a link does not change the nodes
pub same_nodes : (cells : List Cell) (place : ℕ) (new old : Cell) → slice_get cells place ≡ Some old → new.node ≡ old.node
    → nodes_of (slice_set cells place new) ≡ nodes_of cells
same_nodes cells place new old is same =
    map-set_same (λ (c : Cell). c.node) cells place new old (same ∙ sym (ap (λ (c : Cell). c.node) (get_or_from_slice_get cells place old old is)))

-- the gates of a conjunction
abbrev side : Node → ℕ × ℕ
side (And a b) = (a, b)
side Zero = (0, 0)
side Input = (0, 0)

-- the heads of the other chains stay, and the place becomes the head of its own
pub heads_more : (heads : List ℕ) (nodes : List Node) (a b place chain : ℕ) → StandsAt nodes (And a b) place → chain ≡ chain_of (length heads) a b → chain < length heads
    → AreHeads heads nodes place → AreHeads (slice_set heads chain place) nodes (place + 1)
heads_more heads nodes a b place chain at is within old k less =
    let count : length (slice_set heads chain place) ≡ length heads = length-set heads chain place in
    subst (λ n. IsLast n k nodes (place + 1) (slice_index (slice_set heads chain place) k)) (sym count)
    (elim (cases_eq k chain) [
      | inl same ↦
          (let head : slice_index (slice_set heads chain place) k ≡ place = ap (λ i. slice_index (slice_set heads chain place) i) same ∙ get_or-set_same heads chain place 0 within in
          subst (λ p. IsLast (length heads) k nodes (place + 1) p) (sym head)
          (subst (λ m. IsLast (length heads) m nodes (place + 1) place) (sym (same ∙ is)) (last_here (length heads) nodes a b place at)))
      | inr other ↦
          (let lower : k < length heads = subst (λ n. k < n) count less in
          subst (λ p. IsLast (length heads) k nodes (place + 1) p) (sym (get_or-set_other heads chain k place 0 other))
          (last_more (length heads) k nodes place (slice_index heads k) (old k lower)
          (λ a' b' there same. other (sym same ∙ ap (λ (n : Node). chain_of (length heads) (side n).0 (side n).1) (same_Some (And a' b') (And a b) (sym there ∙ at)) ∙ sym is))))
    ])

-- the cells below the place and the cell at it are linked
pub linked_more : (cells : List Cell) (count place : ℕ) → IsLinked count cells place → ((cell : Cell) (a b : ℕ) → slice_get cells place ≡ Some cell → cell.node ≡ And a b → IsLast count (chain_of count a b) (nodes_of cells) place cell.next)
    → IsLinked count cells (place + 1)
linked_more cells count place old here q cell a b within is node =
    elim (cases_lt q place) [
      | inl before ↦ old q cell a b before is node
      | inr from ↦ (let at : q ≡ place = omega arith in subst (λ p. IsLast count (chain_of count a b) (nodes_of cells) p cell.next) (sym at) (here cell a b (subst (λ p. slice_get cells p ≡ Some cell) at is) node))
    ]

-- a cell of the written list is the old one, or the new one at its place
pub other_cell : (cells : List Cell) (q place : ℕ) (new cell : Cell) → slice_get (slice_set cells place new) q ≡ Some cell → q < place → slice_get cells q ≡ Some cell
other_cell cells q place new cell there less =
    let within : q < length (slice_set cells place new) = slice_get_within (slice_set cells place new) q cell there in
    let ne : q ≢ place = omega arith in
    slice_get_read cells (length cells) q cell refl (subst (λ n. q < n) (length-set cells place new) within)
    (sym (sym (get_or-set_other cells place q new cell ne) ∙ get_or_from_slice_get (slice_set cells place new) q cell cell there))

pub set_cell : (cells : List Cell) (place : ℕ) (new cell : Cell) → slice_get (slice_set cells place new) place ≡ Some cell → cell ≡ new
set_cell cells place new cell there =
    let within : place < length (slice_set cells place new) = slice_get_within (slice_set cells place new) place cell there in
    sym (get_or_from_slice_get (slice_set cells place new) place cell cell there) ∙ get_or-set_same cells place new cell (subst (λ n. place < n) (length-set cells place new) within)

-- a cell that holds no conjunction leaves the chains as they are
pub unlinked_cell : (cells : List Cell) (heads : List ℕ) (place : ℕ) (old : Cell) → IsChained cells heads place
    → slice_get cells place ≡ Some old → ((a b : ℕ) → old.node ≡ And a b → ⊥) → IsChained cells heads (place + 1)
unlinked_cell cells heads place old chained at none = record {
  some = chained.some;
  at_heads = λ k less. last_more (length heads) k (nodes_of cells) place (slice_index heads k) (chained.at_heads k less)
      (λ a b there same. none a b (same_Some old.node (And a b) (sym (stands cells place old at) ∙ there)));
  linked = linked_more cells (length heads) place chained.linked
      (λ cell a b there is_and. absurd (none a b (ap (λ (c : Cell). c.node) (same_Some old cell (sym at ∙ there)) ∙ is_and)));
}

-- a cell that is put at the head of its chain
pub linked_cell : (cells : List Cell) (heads : List ℕ) (place chain a b : ℕ) (new old : Cell) → IsChained cells heads place
    → slice_get cells place ≡ Some old → old.node ≡ And a b → new.node ≡ old.node → new.next ≡ slice_index heads chain → chain ≡ chain_of (length heads) a b → chain < length heads
    → IsChained (slice_set cells place new) (slice_set heads chain place) (place + 1)
linked_cell cells heads place chain a b new old chained at node same next is within =
    let nodes : nodes_of (slice_set cells place new) ≡ nodes_of cells = same_nodes cells place new old at same in
    let count : length (slice_set heads chain place) ≡ length heads = length-set heads chain place in
    let stands_at : StandsAt (nodes_of cells) (And a b) place = stands cells place old at ∙ ap (λ (n : Node). Some n) node in
    let here : IsLast (length heads) (chain_of (length heads) a b) (nodes_of cells) place new.next =
    subst (λ p. IsLast (length heads) (chain_of (length heads) a b) (nodes_of cells) place p) (sym next)
    (subst (λ k. IsLast (length heads) k (nodes_of cells) place (slice_index heads chain)) is (chained.at_heads chain within)) in
    record {
      some = subst (λ n. 0 < n) (sym count) chained.some;
      at_heads = subst (λ ns. AreHeads (slice_set heads chain place) ns (place + 1)) (sym nodes)
          (heads_more heads (nodes_of cells) a b place chain stands_at is within chained.at_heads);
      linked = linked_more (slice_set cells place new) (length (slice_set heads chain place)) place
          (λ q cell x y before there is_and.
          subst (λ n. IsLast n (chain_of n x y) (nodes_of (slice_set cells place new)) q cell.next) (sym count)
          (subst (λ ns. IsLast (length heads) (chain_of (length heads) x y) ns q cell.next) (sym nodes)
          (chained.linked q cell x y before (other_cell cells q place new cell there (omega arith)) is_and)))
          (λ cell x y there is_and.
          let same_cell : cell ≡ new = set_cell cells place new cell there in
          let same_and : And x y ≡ And a b = sym is_and ∙ ap (λ (c : Cell). c.node) same_cell ∙ same ∙ node in
          subst (λ n. IsLast n (chain_of n x y) (nodes_of (slice_set cells place new)) place cell.next) (sym count)
          (subst (λ ns. IsLast (length heads) (chain_of (length heads) x y) ns place cell.next) (sym nodes)
          (subst (λ (c : Cell). IsLast (length heads) (chain_of (length heads) x y) (nodes_of cells) place c.next) (sym same_cell)
          (subst (λ (n : Node). IsLast (length heads) (chain_of (length heads) (side n).0 (side n).1) (nodes_of cells) place new.next) (sym same_and) here))));
    }

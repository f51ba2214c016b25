-- One row of many: what is read from it, and what is made of it.
use Rattle.std.proofs.Common.{◌≡◌, ℕ, ◌+◌, ◌*◌, ◌<◌, ◌≤◌, Bool, ◌||◌, List, length, get_or, take, drop, All, refl, subst, ap, ◌∙◌, arith, length-drop}
use Rattle.std.specs.Prelude.{◌==◌}
use Rattle.std.proofs.lemmas.List.{get_or-take, get_or-drop, length-take-le}
use Rattle.std.proofs.lemmas.List.Elements.{All-take, All-drop}
use Rattle.gate_core.specs.declared.circuit.Node.{Node}
use Rattle.gate_core.specs.Circuit.{value, IsOf, Keeps}
use Rattle.gate_core.proofs.Values.{keeps_same}
use Rattle.gate_sets.specs.Lists.{at, in_row, AreTruths}
use Rattle.gate_sets.specs.Shapes.{has_object, any_row, is_only}
use Rattle.gate_sets.proofs.Standing.{rows_keep, truths_alike, any_row_alike, after_first}

-- a row is what stands from its start on
pub chunk_at : (rows : List ℕ) (start width i : ℕ) → i < width → get_or (take width (drop start rows)) i 0 ≡ get_or rows (start + i) 0
chunk_at rows start width i below = get_or-take width (drop start rows) i 0 below ∙ get_or-drop start rows i 0

pub chunk_wide : (rows : List ℕ) (start width : ℕ) → start + width ≤ length rows → length (take width (drop start rows)) ≡ width
chunk_wide rows start width within = length-take-le width (drop start rows) (omega (arith, length-drop start rows))

pub chunk_of : (nodes : List Node) (rows : List ℕ) (start width : ℕ) → All (IsOf nodes) rows → All (IsOf nodes) (take width (drop start rows))
chunk_of nodes rows start width of = All-take (IsOf nodes) width (drop start rows) (All-drop (IsOf nodes) start rows of)

-- the list is the row of this number
abbrev pub IsRow : List ℕ → ℕ → ℕ → List ℕ → Type 0
IsRow rows width place row = (i : ℕ) → i < width → get_or row i 0 ≡ get_or rows (place * width + i) 0

-- what is read from a row that was taken when the circuit had grown
pub row_read : (old new : List Node) (rows row : List ℕ) (inputs : ℕ → Bool) (count width place i : ℕ) → Keeps old new → All (IsOf old) rows → length rows ≡ count * width
    → place < count → IsRow rows width place row → i < width
    → at new row inputs i ≡ in_row width old rows inputs place i
row_read old new rows row inputs count width place i keeps of long below is within =
    ap (value inputs new) (is i within) ∙ rows_keep old new rows inputs count width place i keeps of long below within

-- a row of the squared graph
pub squared_row : (old middle new : List Node) (graph row next : List ℕ) (count place : ℕ) → Keeps old middle → All (IsOf old) graph → length graph ≡ count * count → place < count
    → length row ≡ count → IsRow graph count place row
    → AreTruths new count (λ inputs i. any_row (length row) (at middle row inputs) (in_row count middle graph inputs) i) next
    → AreTruths new count (λ inputs o. any_row count (in_row count old graph inputs place) (in_row count old graph inputs) o) next
squared_row old middle new graph row next count place keeps of square below wide is truths =
    truths_alike new count (λ inputs i. any_row (length row) (at middle row inputs) (in_row count middle graph inputs) i) (λ inputs o. any_row count (in_row count old
    graph inputs place) (in_row count old graph inputs) o) next truths
    (λ inputs o within.
    ap (λ n. any_row n (at middle row inputs) (in_row count middle graph inputs) o) wide
    ∙ any_row_alike count (at middle row inputs) (in_row count old graph inputs place) (in_row count middle graph inputs) (in_row count old graph inputs) o
    (λ q less. row_read old middle graph row inputs count count place q keeps of square below is less)
    (λ q less. rows_keep old middle graph inputs count count q o keeps of square less within))

-- a row of a graph with the edges of a relation
pub led_row : (old middle new : List Node) (graph relation row references next : List ℕ) (count width place : ℕ) → Keeps old middle → All (IsOf old) graph → All (IsOf old) relation
    → length graph ≡ count * count → length relation ≡ count * (count + 1) → place < count → width ≡ count → IsRow graph count place row → IsRow relation (count + 1) place references
    → AreTruths new width (λ inputs i. at middle row inputs i || at middle (drop 1 references) inputs i) next
    → AreTruths new count (λ inputs o. in_row count old graph inputs place o || in_row (count + 1) old relation inputs place (o + 1)) next
led_row old middle new graph relation row references next count width place keeps of_graph of_relation square long below wide is are truths =
    truths_alike new count (λ inputs i. at middle row inputs i || at middle (drop 1 references) inputs i) (λ inputs o. in_row count old graph inputs place o || in_row
    (count + 1) old relation inputs place (o + 1)) next
    (subst (λ n. AreTruths new n (λ inputs i. at middle row inputs i || at middle (drop 1 references) inputs i) next) wide truths)
    (λ inputs o within.
    ap (λ v. v || at middle (drop 1 references) inputs o) (row_read old middle graph row inputs count count place o keeps of_graph square below is within)
    ∙ ap (λ v. in_row count old graph inputs place o || v)
    (after_first middle references inputs o ∙ row_read old middle relation references inputs count (count + 1) place (o + 1) keeps of_relation long below are (omega arith)))

-- a row of first steps
pub first_row_of : (nodes : List Node) (graph row next : List ℕ) (count width place : ℕ) → All (IsOf nodes) graph → length graph ≡ count * count → place < count → width ≡ count
    → IsRow graph count place row
    → AreTruths nodes width (λ inputs o. o == place || at nodes row inputs o) next → AreTruths nodes count (λ inputs o. o == place || in_row count nodes graph inputs place o) next
first_row_of nodes graph row next count width place of square below wide is truths =
    truths_alike nodes count (λ inputs o. o == place || at nodes row inputs o) (λ inputs o. o == place || in_row count nodes graph inputs place o) next
    (subst (λ n. AreTruths nodes n (λ inputs o. o == place || at nodes row inputs o) next) wide truths)
    (λ inputs o within. ap (λ v. o == place || v) (row_read nodes nodes graph row inputs count count place o (keeps_same nodes nodes refl) of square below is within))

-- what the only object of a set has
pub found_at_only : (old middle new : List Node) (set rows chosen found : List ℕ) (count width : ℕ) → Keeps old middle → All (IsOf old) rows → length rows ≡ count * width
    → AreTruths middle count (λ inputs o. is_only count (has_object (at old set inputs)) o) chosen
    → AreTruths new width (λ inputs i. any_row (length chosen) (at middle chosen inputs) (in_row width middle rows inputs) i) found
    → AreTruths new width (λ inputs i. any_row count (λ o. is_only count (has_object (at old set inputs)) o) (in_row width old rows inputs) i) found
found_at_only old middle new set rows chosen found count width keeps of long are truths =
    truths_alike new width (λ inputs i. any_row (length chosen) (at middle chosen inputs) (in_row width middle rows inputs) i) (λ inputs i. any_row count (λ o. is_only
    count (has_object (at old set inputs)) o) (in_row width old rows inputs) i)
    found truths
    (λ inputs i within.
    ap (λ n. any_row n (at middle chosen inputs) (in_row width middle rows inputs) i) are.wide
    ∙ any_row_alike count (at middle chosen inputs) (λ o. is_only count (has_object (at old set inputs)) o) (in_row width middle rows inputs) (in_row width old rows inputs) i
    (λ o below. are.values inputs o below) (λ o below. rows_keep old middle rows inputs count width o i keeps of long below within))

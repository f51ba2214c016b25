-- The closure of a graph by squaring: steps of a graph, and what they become.
use Rattle.std.proofs.Common.{◌≡◌, ℕ, zero, suc, ◌+◌, ◌-◌, ◌<◌, ◌≤◌, Bool, true, false, ◌&&◌, ◌||◌, List, ◌∷◌, drop, refl, sym, ap, ◌∙◌, arith}
use Rattle.std.specs.Prelude.{◌==◌, nat_lt}
use Rattle.std.specs.List.{list_any, range_with_len}
use Rattle.std.proofs.lemmas.Bool.{and_parts, and_from, eqb-true, eq-eqb, lt-ltb}
use Rattle.std.proofs.lemmas.List.Elements.{All-cons}
use Rattle.gate_core.specs.declared.circuit.Node.{Node}
use Rattle.gate_core.specs.Circuit.{value, IsOf}
use Rattle.heap_core.specs.Closure.{Graph, rounds, closure}
use Rattle.heap_core.proofs.Closure.{any_below, any_in, rounds_end, rounds_of_sum, rounds_of_members}
use Rattle.gate_sets.specs.Lists.{at, in_row, AreTruths, AreRows}
use Rattle.gate_sets.specs.Shapes.{has_object, any_row, edges, objects_only}
use Rattle.gate_sets.proofs.Standing.{any_row_alike, rows_alike, truths_alike}
use Rattle.gate_sets.proofs.Several.{iff}

-- ## what rounds from one object give

any_one : (test : ℕ → Bool) (p n : ℕ) → p < n → list_any (λ q. q == p && test q) (range_with_len 0 n) ≡ test p
any_one test p n below = iff (list_any (λ q. q == p && test q) (range_with_len 0 n)) (test p) forth back
  where
    forth : list_any (λ q. q == p && test q) (range_with_len 0 n) ≡ true → test p ≡ true
    forth is =
        let found = any_in (λ q. q == p && test q) n is in
        let both = and_parts (found.0 == p) (test found.0) found.2 in
        ap test (sym (eqb-true found.0 p both.0)) ∙ both.1

    back : test p ≡ true → list_any (λ q. q == p && test q) (range_with_len 0 n) ≡ true
    back is = any_below (λ q. q == p && test q) n p below (and_from (p == p) (test p) (eq-eqb p p refl) is)

-- one step at most
pub one_step : (edge : Graph) (count p o : ℕ) → p < count → (o == p || edge p o) ≡ rounds 1 edge count (λ q. q == p) o
one_step edge count p o below = ap (λ b. o == p || b) (sym (any_one (λ q. edge q o) p count below))

-- as many steps again
pub twice : (edge : Graph) (count n m p o : ℕ) → o < count → m ≡ n + n
    → any_row count (λ q. rounds n edge count (λ r. r == p) q) (λ q r. rounds n edge count (λ s. s == q) r) o ≡ rounds m edge count (λ q. q == p) o
twice edge count n m p o within sum =
    sym (rounds_of_members n edge count (rounds n edge count (λ r. r == p)) o within)
    ∙ sym (rounds_of_sum edge count (λ r. r == p) n n o) ∙ ap (λ k. rounds k edge count (λ q. q == p) o) (sym sum)

-- ## the rows of paths

-- between so many objects, the paths of at most so many steps
abbrev pub paths_of : ℕ → List Node → List ℕ → ℕ → (ℕ → Bool) → ℕ → ℕ → Bool
paths_of count nodes graph steps inputs p o = rounds steps (edges count nodes graph inputs) count (λ q. q == p) o

pub first_paths : (nodes : List Node) (count : ℕ) (graph paths : List ℕ) → AreRows nodes count count (λ inputs p o. o == p || in_row count nodes graph inputs p o) paths
    → AreRows nodes count count (paths_of count nodes graph 1) paths
first_paths nodes count graph paths are =
    rows_alike nodes count count (λ inputs p o. o == p || in_row count nodes graph inputs p o) (paths_of count nodes graph 1) paths are
    (λ inputs p o row place. one_step (edges count nodes graph inputs) count p o row)

pub more_paths : (old middle new : List Node) (count steps twice_as_many : ℕ) (graph paths next : List ℕ) → AreRows middle count count (paths_of count old graph steps) paths
    → twice_as_many ≡ steps + steps
    → AreRows new count count (λ inputs p o. any_row count (in_row count middle paths inputs p) (in_row count middle paths inputs) o) next
    → AreRows new count count (paths_of count old graph twice_as_many) next
more_paths old middle new count steps twice_as_many graph paths next before sum are =
    rows_alike new count count (λ inputs p o. any_row count (in_row count middle paths inputs p) (in_row count middle paths inputs) o) (paths_of count old graph twice_as_many) next are
    (λ inputs p o row place.
    any_row_alike count (in_row count middle paths inputs p) (paths_of count old graph steps inputs p) (in_row count middle paths inputs) (paths_of count old graph steps inputs) o
    (λ q below. before.values inputs p q row below) (λ q below. before.values inputs q o below place)
    ∙ twice (edges count old graph inputs) count steps twice_as_many p o place sum)

pub all_paths : (old new : List Node) (count steps : ℕ) (graph paths : List ℕ) → AreRows new count count (paths_of count old graph steps) paths → count ≤ steps
    → AreRows new count count (λ inputs p o. closure (edges count old graph inputs) count (λ q. q == p) o) paths
all_paths old new count steps graph paths are enough =
    rows_alike new count count (paths_of count old graph steps) (λ inputs p o. closure (edges count old graph inputs) count (λ q. q == p) o) paths are
    (λ inputs p o row place. rounds_end (edges count old graph inputs) count (λ q. q == p) steps o enough)

-- ## what is reached from a set

pub reached_from : (old middle new : List Node) (count : ℕ) (set graph paths found : List ℕ) → ((inputs : ℕ → Bool) (o : ℕ) → o < count
    → at middle (drop 1 set) inputs o ≡ has_object (at old set inputs) o)
    → AreRows middle count count (λ inputs p o. closure (edges count old graph inputs) count (λ q. q == p) o) paths
    → AreTruths new count (λ inputs o. any_row count (at middle (drop 1 set) inputs) (in_row count middle paths inputs) o) found
    → AreTruths new count (λ inputs o. closure (edges count old graph inputs) count (has_object (at old set inputs)) o) found
reached_from old middle new count set graph paths found chosen are truths =
    truths_alike new count (λ inputs o. any_row count (at middle (drop 1 set) inputs) (in_row count middle paths inputs) o) (λ inputs o. closure (edges count old graph
    inputs) count (has_object (at old set inputs)) o) found truths
    (λ inputs o within.
    any_row_alike count (at middle (drop 1 set) inputs) (has_object (at old set inputs)) (in_row count middle paths inputs) (λ p q. closure (edges count old graph inputs)
    count (λ r. r == p) q) o
    (λ p below. chosen inputs p below) (λ p below. are.values inputs p o below within)
    ∙ sym (rounds_of_members count (edges count old graph inputs) count (has_object (at old set inputs)) o within))

-- null in front, which is not reached
pub with_null : (nodes : List Node) (n none : ℕ) (f : (ℕ → Bool) → ℕ → Bool) (gates : List ℕ) → IsOf nodes none → ((inputs : ℕ → Bool) → value inputs nodes none ≡ false)
    → AreTruths nodes n f gates
    → AreTruths nodes (n + 1) (λ inputs i. objects_only (f inputs) i) (none ∷ gates)
with_null nodes n none f gates of is_false truths = record {
  of = All-cons (IsOf nodes) none gates of truths.of;
  wide = (let w = truths.wide in omega arith);
  values = places;
}
  where
    places : (inputs : ℕ → Bool) (i : ℕ) → i < n + 1 → at nodes (none ∷ gates) inputs i ≡ objects_only (f inputs) i
    places inputs zero within = is_false inputs
    places inputs (suc k) within =
        let back : suc k - 1 ≡ k = omega arith in
        let there : nat_lt 0 (suc k) ≡ true = lt-ltb 0 (suc k) (omega arith) in
        truths.values inputs k (omega arith) ∙ ap (f inputs) (sym back) ∙ ap (λ b. b && f inputs (suc k - 1)) (sym there)

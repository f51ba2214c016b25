-- Gates of lists that stand keep their truth.
use Rattle.std.proofs.Common.{◌≡◌, ℕ, ◌+◌, ◌*◌, ◌<◌, Bool, true, false, ◌&&◌, List, length, get_or, drop, All, refl, sym, subst, ap, ◌∙◌, arith}
use Rattle.std.specs.Prelude.{if◌then◌else◌}
use Rattle.std.proofs.lemmas.List.{get_or-map}
use Rattle.std.proofs.lemmas.Grind.{get_or_default_zero, get_or_after_one}
use Rattle.std.proofs.lemmas.Nat.{mul-add-lt}
use Rattle.gate_core.specs.declared.circuit.Node.{Node}
use Rattle.gate_core.specs.Circuit.{value, IsOf, Keeps}
use Rattle.gate_core.proofs.Values.{of_more}
use Rattle.gate_arith.specs.Operations.{bits, IsTruth, IsSelected}
use Rattle.heap_core.proofs.Closure.{any_alike}
use Rattle.gate_sets.specs.Lists.{at, in_row, AreTruths, AreRows}
use Rattle.gate_sets.specs.Shapes.{any_row}

-- a gate that is read from a list is one of the circuit
pub read_of : (nodes : List Node) (gates : List ℕ) (i x : ℕ) → All (IsOf nodes) gates → i < length gates → x ≡ get_or gates i x → IsOf nodes x
read_of nodes gates i x of within is = subst (IsOf nodes) (sym is) (of i x within)

pub ruleset reading = read_of

pub at_keeps : (old new : List Node) (gates : List ℕ) (inputs : ℕ → Bool) (i : ℕ) → Keeps old new → All (IsOf old) gates → i < length gates → at new gates inputs i ≡ at old gates inputs i
at_keeps old new gates inputs i keeps of within = keeps.values inputs (get_or gates i 0) (of i 0 within)

-- a gate that is read has the truth of its place
pub read_is : (nodes : List Node) (gates : List ℕ) (inputs : ℕ → Bool) (i x : ℕ) → i < length gates → x ≡ get_or gates i x → value inputs nodes x ≡ at nodes gates inputs i
read_is nodes gates inputs i x within is = ap (value inputs nodes) (is ∙ get_or_default_zero gates i x within)

-- the same in a circuit that has grown
pub read_kept : (old new : List Node) (gates : List ℕ) (inputs : ℕ → Bool) (i x : ℕ) → Keeps old new → All (IsOf old) gates → i < length gates → x ≡ get_or gates i x
    → value inputs new x ≡ at old gates inputs i
read_kept old new gates inputs i x keeps of within is = read_is new gates inputs i x within is ∙ at_keeps old new gates inputs i keeps of within

-- a truth that is the same under each assignment
pub truth_alike : (nodes : List Node) (f g : (ℕ → Bool) → Bool) (gate : ℕ) → IsTruth nodes f gate → ((inputs : ℕ → Bool) → f inputs ≡ g inputs) → IsTruth nodes g gate
truth_alike nodes f g gate truth alike = record { of = truth.of; value_is = λ inputs. truth.value_is inputs ∙ alike inputs }

pub truth_kept : (old new : List Node) (f : (ℕ → Bool) → Bool) (gate : ℕ) → IsTruth old f gate → Keeps old new → IsTruth new f gate
truth_kept old new f gate truth keeps = record { of = of_more old new gate keeps truth.of; value_is = λ inputs. keeps.values inputs gate truth.of ∙ truth.value_is inputs }

pub truths_alike : (nodes : List Node) (count : ℕ) (f g : (ℕ → Bool) → ℕ → Bool) (gates : List ℕ) → AreTruths nodes count f gates → ((inputs : ℕ → Bool) (i : ℕ) → i < count
    → f inputs i ≡ g inputs i) → AreTruths nodes count g gates
truths_alike nodes count f g gates truths alike = record { of = truths.of; wide = truths.wide; values = λ inputs i within. truths.values inputs i within ∙ alike inputs i within }

pub rows_alike : (nodes : List Node) (count width : ℕ) (f g : (ℕ → Bool) → ℕ → ℕ → Bool) (rows : List ℕ) → AreRows nodes count width f rows
    → ((inputs : ℕ → Bool) (o i : ℕ) → o < count → i < width → f inputs o i ≡ g inputs o i) → AreRows nodes count width g rows
rows_alike nodes count width f g rows are alike = record { of = are.of; long = are.long; values = λ inputs o i row place. are.values inputs o i row place ∙ alike inputs o i row place }

-- two gates that are read, and an operation on them
pub both_read : (op : Bool → Bool → Bool) (old middle new : List Node) (a b : List ℕ) (i j x y gate : ℕ) → Keeps old middle → All (IsOf old) a → All (IsOf old) b
    → i < length a → j < length b → x ≡ get_or a i x → y ≡ get_or b j y → IsTruth new (λ inputs. op (value inputs middle x) (value inputs middle y)) gate
    → IsTruth new (λ inputs. op (at old a inputs i) (at old b inputs j)) gate
both_read op old middle new a b i j x y gate keeps of_a of_b in_a in_b at_x at_y truth =
    truth_alike new (λ inputs. op (value inputs middle x) (value inputs middle y)) (λ inputs. op (at old a inputs i) (at old b inputs j)) gate truth
    (λ inputs. ap (λ v. op v (value inputs middle y)) (read_kept old middle a inputs i x keeps of_a in_a at_x)
    ∙ ap (op (at old a inputs i)) (read_kept old middle b inputs j y keeps of_b in_b at_y))

-- a place of a row is one of the list
pub in_rows : (o n i w : ℕ) → o < n → i < w → o * w + i < n * w
in_rows o n i w row place = grind (arith, mul-add-lt o w i n row place)

pub rows_keep : (old new : List Node) (rows : List ℕ) (inputs : ℕ → Bool) (count width o i : ℕ) → Keeps old new → All (IsOf old) rows → length rows ≡ count * width → o < count → i < width
    → in_row width new rows inputs o i ≡ in_row width old rows inputs o i
rows_keep old new rows inputs count width o i keeps of long row place = at_keeps old new rows inputs (o * width + i) keeps of (subst (λ n. o * width + i < n) (sym long)
    (in_rows o count i width row place))

-- a list without its first place
pub after_first : (nodes : List Node) (gates : List ℕ) (inputs : ℕ → Bool) (i : ℕ) → at nodes (drop 1 gates) inputs i ≡ at nodes gates inputs (i + 1)
after_first nodes gates inputs i = ap (value inputs nodes) (get_or_after_one gates i 0 ∙ ap (λ k. get_or gates k 0) (omega arith))

-- what some chosen row has, in tests that agree
pub any_row_alike : (count : ℕ) (a b : ℕ → Bool) (r s : ℕ → ℕ → Bool) (i : ℕ) → ((o : ℕ) → o < count → a o ≡ b o) → ((o : ℕ) → o < count → r o i ≡ s o i)
    → any_row count a r i ≡ any_row count b s i
any_row_alike count a b r s i chosen rows =
    any_alike (λ o. a o && r o i) (λ o. b o && s o i) 0 count (λ o below. let within : o < count = omega arith in ap (λ v. v && r o i) (chosen o within) ∙ ap (λ v. b o && v) (rows o within))

-- a bit is the truth of its place
bit_at : (nodes : List Node) (gates : List ℕ) (inputs : ℕ → Bool) (i : ℕ) → i < length gates → get_or (bits inputs nodes gates) i false ≡ at nodes gates inputs i
bit_at nodes gates inputs i within = get_or-map (value inputs nodes) gates i 0 false within

if_at : (b : Bool) (xs ys : List Bool) (i : ℕ) → get_or (if b then xs else ys) i false ≡ (if b then get_or xs i false else get_or ys i false)
if_at true xs ys i = refl
if_at false xs ys i = refl

pub chosen_places : (old new : List Node) (condition : ℕ) (a b gates : List ℕ) → length b ≡ length a → IsSelected old new condition a b gates
    → AreTruths new (length a) (λ inputs i. if value inputs old condition then at old a inputs i else at old b inputs i) gates
chosen_places old new condition a b gates wide selected = record {
  of = selected.of;
  wide = selected.wide;
  values = λ inputs i within.
      sym (bit_at new gates inputs i (omega (arith, selected.wide)))
      ∙ ap (λ bs. get_or bs i false) (selected.bits_are inputs)
      ∙ if_at (value inputs old condition) (bits inputs old a) (bits inputs old b) i
      ∙ ap (λ v. if value inputs old condition then v else get_or (bits inputs old b) i false) (bit_at old a inputs i within)
      ∙ ap (λ v. if value inputs old condition then at old a inputs i else v) (bit_at old b inputs i (omega (arith, wide)));
}

-- One row more that is another but for some objects.
use Rattle.std.proofs.Common.{◌≡◌, ℕ, ◌+◌, ◌*◌, ◌<◌, Bool, not, List, length, get_or, All, sym, subst, ap, ◌∙◌, arith}
use Rattle.std.specs.Prelude.{if◌then◌else◌}
use Rattle.std.proofs.lemmas.Nat.{mul-add-lt}
use Rattle.gate_core.specs.declared.circuit.Node.{Node}
use Rattle.gate_core.specs.Circuit.{value, IsOf, Keeps}
use Rattle.gate_arith.specs.Numbers.{differ}
use Rattle.gate_arith.specs.Operations.{IsTruth}
use Rattle.gate_sets.specs.Lists.{at}
use Rattle.gate_sets.specs.Shapes.{are_same}
use Rattle.gate_sets.proofs.Standing.{truth_alike, read_kept}
use Rattle.rel_gates.specs.Changes.{row_changes}
use Rattle.rel_gates.proofs.Inclusions.{all_alike}

-- places that agree
pub same_by : (width : ℕ) (a b c d : ℕ → Bool) → ((i : ℕ) → i < width → a i ≡ c i) → ((i : ℕ) → i < width → b i ≡ d i) → are_same width a b ≡ are_same width c d
same_by width a b c d first second =
    all_alike (λ i. not (differ (a i) (b i))) (λ i. not (differ (c i) (d i))) 0 width (λ i under.
    let below : i < width = omega (arith, under) in
    ap (λ x. not (differ x (b i))) (first i below) ∙ ap (λ x. not (differ (c i) x)) (second i below))

-- a gate of a row, in a circuit that has grown
row_now : (old middle : List Node) (width o count : ℕ) (rows row : List ℕ) (inputs : ℕ → Bool) (i : ℕ) → Keeps old middle → All (IsOf old) rows → o < count → length rows ≡ count * width
    → ((k : ℕ) → k < width → get_or row k 0 ≡ get_or rows (o * width + k) 0) → i < width → value inputs middle (get_or row i 0) ≡ value inputs old (get_or rows (o * width + i) 0)
row_now old middle width o count rows row inputs i keeps of below long same under =
    ap (value inputs middle) (same i under) ∙ keeps.values inputs (get_or rows (o * width + i) 0) (of (o * width + i) 0 (subst (λ n. o * width + i < n) (sym long) inside))
  where
    inside : o * width + i < count * width
    inside = grind (arith, mul-add-lt o width i count below under)

pub row_changed : (old middle third : List Node) (width count o : ℕ) (members news given olds row_new row_old : List ℕ) (inside here : ℕ) → Keeps old middle → All (IsOf old) members
    → All (IsOf old) news → All (IsOf old) given → All (IsOf old) olds → length members ≡ count → o < count → length news ≡ count * width → length olds ≡ count * width → length given ≡ width
    → ((k : ℕ) → k < width → get_or row_new k 0 ≡ get_or news (o * width + k) 0) → ((k : ℕ) → k < width → get_or row_old k 0 ≡ get_or olds (o * width + k) 0)
    → inside ≡ get_or members o inside
    → IsTruth third (λ inputs. are_same width (at middle row_new inputs) (λ i. if value inputs middle inside then at middle given inputs i else at middle row_old inputs i)) here
    → IsTruth third (λ inputs. row_changes width (value inputs old) members news given olds o) here
row_changed old middle third width count o members news given olds row_new row_old inside here keeps of_members of_news of_given of_olds many below long_news long_olds wide same_new same_old is truth =
    truth_alike third (λ inputs. are_same width (at middle row_new inputs) (λ i. if value inputs middle inside then at middle given inputs i else at middle row_old inputs i))
    (λ inputs. row_changes width (value inputs old) members news given olds o) here truth (λ inputs.
    same_by width (at middle row_new inputs) (λ i. if value inputs middle inside then at middle given inputs i else at middle row_old inputs i) (λ i. value inputs old (get_or news (o * width + i) 0))
    (λ i. if value inputs old (get_or members o 0) then value inputs old (get_or given i 0) else value inputs old (get_or olds (o * width + i) 0))
    (λ i under. row_now old middle width o count news row_new inputs i keeps of_news below long_news same_new under)
    (λ i under.
    ap (λ b. if b then at middle given inputs i else at middle row_old inputs i) (read_kept old middle members inputs o inside keeps of_members (omega (arith, many, below)) is)
    ∙ ap (λ b. if value inputs old (get_or members o 0) then b else at middle row_old inputs i) (keeps.values inputs (get_or given i 0) (of_given i 0 (omega (arith, under, wide))))
    ∙ ap (λ b. if value inputs old (get_or members o 0) then value inputs old (get_or given i 0)
    else b) (row_now old middle width o count olds row_old inputs i keeps of_olds below long_olds same_old under)))

-- The numbers that rows of gates show.
use Rattle.std.proofs.Common.{◌≡◌, ℕ, ◌+◌, ◌*◌, ◌^◌, ◌<◌, Bool, false, List, [], ◌∷◌, ◌++◌, All, length, map, get_or, refl, sym, subst, ap, ◌∙◌, arith, inl, inr, add-one, pos, ◌-ℤ◌}
use Rattle.std.specs.Prelude.{◌==◌}
use Rattle.std.specs.Ordering.{int_eq}
use Rattle.std.specs.List.{range_with_len}
use Rattle.std.proofs.lemmas.Bool.{cases_Bool, cases_eq, eq-eqb, ne_eqb}
use Rattle.std.proofs.lemmas.Bool.Decides.{Decides-int_eq}
use Rattle.std.proofs.lemmas.Int.{ints}
use Rattle.std.proofs.lemmas.Nat.{mul-add-lt}
use Rattle.std.proofs.lemmas.List.{map-append}
use Rattle.gate_core.specs.declared.circuit.Node.{Node}
use Rattle.gate_core.specs.Circuit.{value, IsOf, Keeps}
use Rattle.gate_arith.specs.Numbers.{bit, number, signed}
use Rattle.gate_arith.specs.Operations.{bits, shown}
use Rattle.gate_arith.proofs.Signed.{signed_push}
use Rattle.gate_sets.specs.Lists.{AreTruths}
use Rattle.rel_gates.specs.Shown.{in_row, row_bits}
use Rattle.rel_gates.specs.Constants.{digit}
use Rattle.rel_gates.proofs.Digits.{shifted, map_alike, number_of_digits}

-- a list of gates, place by place
pub map_places : (f : ℕ → Bool) (gates : List ℕ) → map f gates ≡ map (λ i. f (get_or gates i 0)) (range_with_len 0 (length gates))
map_places f [] = refl
map_places f (g ∷ gs) =
    ap (λ bs. f g ∷ bs) (map_places f gs
    ∙ sym (shifted (λ i. f (get_or (g ∷ gs) i 0)) 0 (length gs) ∙ map_alike (λ i. f (get_or (g ∷ gs) (i + 1) 0)) (λ i. f (get_or gs i 0)) 0 (length gs) (λ i below. ap (λ k. f
    (get_or (g ∷ gs) k 0)) (add-one i))))

-- the bits of gates whose truth values are known
pub bits_of_truths : (nodes : List Node) (width : ℕ) (truth : (ℕ → Bool) → ℕ → Bool) (gates : List ℕ) (inputs : ℕ → Bool) → AreTruths nodes width truth gates
    → bits inputs nodes gates ≡ map (truth inputs) (range_with_len 0 width)
bits_of_truths nodes width truth gates inputs are =
    map_places (value inputs nodes) gates
    ∙ ap (λ n. map (λ i. value inputs nodes (get_or gates i 0)) (range_with_len 0 n)) are.wide
    ∙ map_alike (λ i. value inputs nodes (get_or gates i 0)) (truth inputs) 0 width (λ i below. are.values inputs i (omega (arith, below)))

pub number_of_constants : (nodes : List Node) (width n : ℕ) (gates : List ℕ) (inputs : ℕ → Bool) → AreTruths nodes width (λ inputs i. digit n i) gates → n < 2 ^ width
    → number (bits inputs nodes gates) ≡ n
number_of_constants nodes width n gates inputs are fits = ap number (bits_of_truths nodes width (λ inputs i. digit n i) gates inputs are) ∙ number_of_digits width n fits

-- a sign behind bits that is not set
pub shown_unsigned : (nodes : List Node) (row : List ℕ) (last : ℕ) (inputs : ℕ → Bool) → value inputs nodes last ≡ false
    → shown nodes (row ++ last ∷ []) inputs ≡ pos (number (bits inputs nodes row))
shown_unsigned nodes row last inputs none =
    ap signed (map-append (value inputs nodes) row (last ∷ []))
    ∙ ap (λ b. signed (bits inputs nodes row ++ b ∷ [])) none
    ∙ signed_push (bits inputs nodes row) false
    ∙ (let nothing : 2 ^ length (bits inputs nodes row) * bit false ≡ 0 = omega arith in ap (λ n. pos (number (bits inputs nodes row)) -ℤ pos n) nothing)
    ∙ omega (arith, ints)

-- numbers without a sign that are the same
pub same_numbers : (a b : ℕ) → int_eq (pos a) (pos b) ≡ (a == b)
same_numbers a b =
    elim (cases_eq a b) [
      | inl same ↦ (Decides-int_eq (pos a) (pos b)).1 (ap (λ k. pos k) same) ∙ sym (eq-eqb a b same)
      | inr other ↦ elim (cases_Bool (int_eq (pos a) (pos b))) [
        | inl is ↦ absurd (other (let same : pos a ≡ pos b = (Decides-int_eq (pos a) (pos b)).0 is in cc))
        | inr none ↦ none ∙ sym (ne_eqb a b other)
      ]
    ]

-- a list that is a row has the row's truth values
pub row_same : (truth : ℕ → Bool) (rows row : List ℕ) (width o : ℕ) → length row ≡ width → ((i : ℕ) → i < width → get_or row i 0 ≡ get_or rows (o * width + i) 0)
    → map truth row ≡ row_bits truth width rows o
row_same truth rows row width o wide same =
    map_places truth row ∙ ap (λ n. map (λ i. truth (get_or row i 0)) (range_with_len 0 n)) wide
    ∙ map_alike (λ i. truth (get_or row i 0)) (in_row truth width rows o) 0 width (λ i below. ap truth (same i (omega (arith, below))))

-- the same, of a row that is read from rows that stood
pub row_kept : (old middle : List Node) (rows row : List ℕ) (width o count : ℕ) (inputs : ℕ → Bool) → Keeps old middle → All (IsOf old) rows → o < count → length rows ≡ count * width
    → length row ≡ width → ((i : ℕ) → i < width → get_or row i 0 ≡ get_or rows (o * width + i) 0) → map (value inputs middle) row ≡ row_bits (value inputs old) width rows o
row_kept old middle rows row width o count inputs keeps of below long wide same =
    row_same (value inputs middle) rows row width o wide same
    ∙ map_alike (in_row (value inputs middle) width rows o) (in_row (value inputs old) width rows o) 0 width (λ i under.
    keeps.values inputs (get_or rows (o * width + i) 0) (of (o * width + i) 0 (subst (λ n. o * width + i < n) (sym long) (inside i (omega (arith, under))))))
  where
    inside : (i : ℕ) → i < width → o * width + i < count * width
    inside i under = grind (arith, mul-add-lt o width i count below under)

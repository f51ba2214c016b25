-- A count, bit by bit.
use Rattle.std.proofs.Common.{◌≡◌, ℕ, zero, suc, ◌+◌, ◌-◌, ◌*◌, ◌^◌, ◌<◌, Bool, true, false, not, ◌||◌, List, [], ◌∷◌, ◌++◌, length, take, get_or, refl, sym, ap, subst, ◌∙◌, arith, length-append, pos, All}
use Rattle.std.specs.Prelude.{nat_lt, nat_le, replicate}
use Rattle.std.proofs.lemmas.Int.{ints}
use Rattle.std.proofs.lemmas.List.{take_all, map-append, length-map, length-replicate, get_or-replicate}
use Rattle.std.proofs.lemmas.List.Elements.{All-append, All-cons}
use Rattle.std.proofs.lemmas.Bool.Decides.{nat_tests}
use Rattle.std.proofs.lemmas.Bool.{false≢true, not-true}
use Rattle.std.proofs.lemmas.Nat.{pow_pos}
use Rattle.gate_core.specs.declared.circuit.Node.{Node}
use Rattle.gate_core.specs.Circuit.{value, IsOf, Keeps}
use Rattle.gate_core.proofs.Values.{keeps_same, keeps_twice, of_more, all_more}
use Rattle.gate_arith.specs.Numbers.{bit, number, signed, is_within, how_many}
use Rattle.gate_arith.specs.Operations.{bits, IsTruth, IsNumber}
use Rattle.gate_arith.specs.Ripple.{IsPartial}
use Rattle.gate_arith.specs.Counting.{IsCounted}
use Rattle.gate_arith.proofs.Ripple.{bits_keep}
use Rattle.gate_arith.proofs.Signed.{signed_push, number_below}
use Rattle.gate_arith.proofs.Choices.{bits-take}

how_many-push : (xs : List Bool) (b : Bool) → how_many (xs ++ b ∷ []) ≡ how_many xs + bit b
how_many-push [] b = omega arith
how_many-push (x ∷ xs) b = omega (arith, how_many-push xs b)

-- a list of false gates shows 0
pub number_zeros : (inputs : ℕ → Bool) (nodes : List Node) (none n : ℕ) → value inputs nodes none ≡ false → number (bits inputs nodes (replicate n none)) ≡ 0
number_zeros inputs nodes none zero is_false = refl
number_zeros inputs nodes none (suc n) is_false = ap (λ v. bit v + 2 * number (bits inputs nodes (replicate n none))) is_false ∙ (let h = number_zeros inputs nodes none n is_false in omega arith)

pub zeros_of : (nodes : List Node) (none n : ℕ) → IsOf nodes none → All (IsOf nodes) (replicate n none)
zeros_of nodes none n of = λ k d within. subst (IsOf nodes) (sym (get_or-replicate n k none d (subst (λ m. k < m) (length-replicate n none) within))) of

above : (places : ℕ) → nat_le (2 ^ places) 0 ≡ false
above places = (let some : 0 < 2 ^ places = pow_pos places in grind (arith, nat_tests))

-- no bit is counted yet
pub counted_none : (old : List Node) (counted : List ℕ) (places none : ℕ) → IsOf old none → ((inputs : ℕ → Bool) → value inputs old none ≡ false)
    → IsCounted old old counted places 0 (replicate places none) none
counted_none old counted places none of is_false = record {
  keeps = keeps_same old old refl;
  of = zeros_of old none places of;
  wide = length-replicate places none;
  over_of = of;
  over_is = λ inputs. is_false inputs ∙ sym (above places);
  low_is = λ inputs h. number_zeros inputs old none places (is_false inputs);
}

-- the tests of one bit more
over_more : (over carry b : Bool) (p h n m : ℕ) → over ≡ nat_le p h → (over ≡ false → n ≡ h) → m + p * bit carry ≡ n + bit b → m < p → (over || carry) ≡ nat_le p (h + bit b)
over_more true carry b p h n m is_over low sum less = grind (arith, nat_tests)
over_more false true b p h n m is_over low sum less = (let same = low refl in grind (arith, nat_tests))
over_more false false b p h n m is_over low sum less = (let same = low refl in grind (arith, nat_tests))

low_more : (over carry b : Bool) (p h n m : ℕ) → (over ≡ false → n ≡ h) → m + p * bit carry ≡ n + bit b → (over || carry) ≡ false → m ≡ h + bit b
low_more true carry b p h n m low sum none = absurd (false≢true (sym none))
low_more false true b p h n m low sum none = absurd (false≢true (sym none))
low_more false false b p h n m low sum none = (let same = low refl in omega arith)

pub counted_more : (old middle third new : List Node) (counted : List ℕ) (places i x none over next carry : ℕ) (low after : List ℕ) → IsCounted old middle counted places i low over
    → IsOf old none → ((inputs : ℕ → Bool) → value inputs old none ≡ false) → i < length counted → x ≡ get_or counted i x → IsOf old x
    → IsPartial middle third low (replicate places none) x (length low) after carry
    → IsTruth new (λ inputs. value inputs third over || value inputs third carry) next → Keeps third new
    → IsCounted old new counted places (i + 1) after next
counted_more old middle third new counted places i x none over next carry low after part of_none is_false within at of_x ripple truth grows =
    let kept : Keeps middle new = keeps_twice middle third new ripple.keeps grows in
    let wide : length after ≡ places = ripple.wide ∙ part.wide in
    let longer : (inputs : ℕ → Bool) → how_many (bits inputs old (take (i + 1) counted)) ≡ how_many (bits inputs old (take i counted)) + bit (value inputs old x) =
    λ inputs. ap how_many (bits-take inputs old counted i x within at) ∙ how_many-push (bits inputs old (take i counted)) (value inputs old x) in
    let sum : (inputs : ℕ → Bool) → number (bits inputs third after) + 2 ^ places * bit (value inputs third carry) ≡ number (bits inputs middle low) + bit (value inputs old x) =
    λ inputs.
    ap (λ n. number (bits inputs third after) + 2 ^ n * bit (value inputs third carry)) (sym part.wide) ∙ ripple.sum_is inputs
    ∙ ap (λ gs. number (bits inputs middle gs) + number (bits inputs middle (take (length low) (replicate places none))) + bit (value inputs middle x)) (take_all (length low) low (omega arith))
    ∙ ap (λ gs. number (bits inputs middle low) + number (bits inputs middle gs) + bit (value inputs middle x)) (take_all (length low) (replicate places none) (let w = part.wide in omega (arith, length-replicate places none)))
    ∙ ap (λ n. number (bits inputs middle low) + n + bit (value inputs middle x)) (number_zeros inputs middle none places (part.keeps.values inputs none of_none ∙ is_false inputs))
    ∙ ap (λ v. number (bits inputs middle low) + 0 + bit v) (part.keeps.values inputs x of_x) ∙ omega arith in
    let less : (inputs : ℕ → Bool) → number (bits inputs third after) < 2 ^ places =
    λ inputs. subst (λ n. number (bits inputs third after) < 2 ^ n) (length-map after (value inputs third) ∙ wide) (number_below (bits inputs third after)) in
    let truth_is : (inputs : ℕ → Bool) → value inputs new next ≡ (value inputs middle over || value inputs third carry) =
    λ inputs. truth.value_is inputs ∙ ap (λ v. v || value inputs third carry) (ripple.keeps.values inputs over part.over_of) in
    record {
      keeps = keeps_twice old middle new part.keeps kept;
      of = all_more third new after grows ripple.of;
      wide = wide;
      over_of = truth.of;
      over_is = λ inputs.
          truth_is inputs
          ∙ over_more (value inputs middle over) (value inputs third carry) (value inputs old x) (2 ^ places) (how_many (bits inputs old (take i counted))) (number (bits inputs middle low)) (number (bits inputs third after))
          (part.over_is inputs) (part.low_is inputs) (sum inputs) (less inputs)
          ∙ ap (λ n. nat_le (2 ^ places) n) (sym (longer inputs));
      low_is = λ inputs none_over.
          ap number (bits_keep inputs third new after grows ripple.of)
          ∙ low_more (value inputs middle over) (value inputs third carry) (value inputs old x) (2 ^ places) (how_many (bits inputs old (take i counted))) (number (bits inputs middle low)) (number (bits inputs third after))
          (part.low_is inputs) (sum inputs) (sym (truth_is inputs) ∙ none_over)
          ∙ sym (longer inputs);
    }

-- the count with its sign
not_over : (p h : ℕ) → not (nat_le p h) ≡ nat_lt h p
not_over p h = grind (arith, nat_tests)

pub counted_all : (old new : List Node) (counted : List ℕ) (places width none over within : ℕ) (low : List ℕ) → width ≡ suc places → IsCounted old new counted places (length counted) low over
    → IsOf old none → ((inputs : ℕ → Bool) → value inputs old none ≡ false)
    → IsOf new within → ((inputs : ℕ → Bool) → value inputs new within ≡ not (value inputs new over))
    → IsNumber new width (λ inputs. pos (how_many (bits inputs old counted))) (low ++ none ∷ []) within
counted_all old new counted places width none over within low is_width part of_none is_false of_within negates =
    let whole : (inputs : ℕ → Bool) → how_many (bits inputs old (take (length counted) counted)) ≡ how_many (bits inputs old counted) =
    λ inputs. ap (λ gs. how_many (bits inputs old gs)) (take_all (length counted) counted (omega arith)) in
    let power : 2 ^ places ≡ 2 ^ (width - 1) = ap (λ n. 2 ^ n) (omega arith) in
    let test : (inputs : ℕ → Bool) → value inputs new within ≡ is_within width (pos (how_many (bits inputs old counted))) =
    λ inputs. negates inputs ∙ ap not (part.over_is inputs ∙ ap (λ n. nat_le (2 ^ places) n) (whole inputs)) ∙ not_over (2 ^ places) (how_many (bits inputs old counted))
    ∙ ap (λ p. nat_lt (how_many (bits inputs old counted)) p) power in
    record {
      of = All-append (IsOf new) low (none ∷ []) part.of (All-cons (IsOf new) none [] (of_more old new none part.keeps of_none) (λ k d h. absurd (omega arith)));
      wide = length-append low (none ∷ []) ∙ (let w = part.wide in omega arith);
      within_is = record { of = of_within; value_is = test };
      number_is = λ inputs fits.
          ap signed (map-append (value inputs new) low (none ∷ []) ∙ ap (λ v. bits inputs new low ++ v ∷ []) (part.keeps.values inputs none of_none ∙ is_false inputs))
          ∙ signed_push (bits inputs new low) false
          ∙ (let shows : number (bits inputs new low) ≡ how_many (bits inputs old counted) =
          part.low_is inputs (not-true (value inputs new over) (sym (negates inputs) ∙ test inputs ∙ fits)) ∙ whole inputs in
          omega (arith, ints));
    }

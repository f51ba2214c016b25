-- Comparisons of numbers, place by place and then by their signs.
use Rattle.std.proofs.Common.{◌≡◌, ℕ, suc, ◌+◌, ◌*◌, ◌^◌, ◌<◌, ◌≤◌, Bool, true, false, not, ◌&&◌, List, length, take, get_or, refl, sym, ap, subst, ◌∙◌, arith, ℤ, pos, ◌-ℤ◌}
use Rattle.std.specs.Prelude.{nat_lt, ◌==◌, int_lt, if◌then◌else◌}
use Rattle.std.specs.Ordering.{int_eq}
use Rattle.std.proofs.lemmas.Int.{ints}
use Rattle.std.proofs.lemmas.Bool.Decides.{nat_tests}
use Rattle.std.proofs.lemmas.List.{length-map, length-take-le}
use Rattle.gate_core.specs.declared.circuit.Node.{Node}
use Rattle.gate_core.specs.Circuit.{value, IsOf, Keeps}
use Rattle.gate_core.proofs.Values.{keeps_same, keeps_twice}
use Rattle.gate_arith.specs.Numbers.{bit, number, differ}
use Rattle.gate_arith.specs.Operations.{bits, shown, IsTruth}
use Rattle.gate_arith.specs.Comparison.{IsTested}
use Rattle.gate_arith.proofs.Ripple.{number-take}
use Rattle.gate_arith.proofs.Signed.{number_below}
use Rattle.gate_arith.proofs.Sums.{shown_split}

pub less_step : (n m p : ℕ) (x y : Bool) → n < p → m < p → nat_lt (n + p * bit x) (m + p * bit y) ≡ (if differ x y then y else nat_lt n m)
less_step n m p true true low high = grind (arith, nat_tests)
less_step n m p true false low high = grind (arith, nat_tests)
less_step n m p false true low high = grind (arith, nat_tests)
less_step n m p false false low high = grind (arith, nat_tests)

pub same_step : (n m p : ℕ) (x y : Bool) → n < p → m < p → (n + p * bit x == m + p * bit y) ≡ ((n == m) && not (differ x y))
same_step n m p true true low high = grind (arith, nat_tests)
same_step n m p true false low high = grind (arith, nat_tests)
same_step n m p false true low high = grind (arith, nat_tests)
same_step n m p false false low high = grind (arith, nat_tests)

pub less_signs : (n m p : ℕ) (x y : Bool) → n < p → m < p → int_lt (pos n -ℤ pos (p * bit x)) (pos m -ℤ pos (p * bit y)) ≡ (if differ y x then x else nat_lt n m)
less_signs n m p true true low high = grind (arith, ints, nat_tests)
less_signs n m p true false low high = grind (arith, ints, nat_tests)
less_signs n m p false true low high = grind (arith, ints, nat_tests)
less_signs n m p false false low high = grind (arith, ints, nat_tests)

pub same_signs : (n m p : ℕ) (x y : Bool) → n < p → m < p → int_eq (pos n -ℤ pos (p * bit x)) (pos m -ℤ pos (p * bit y)) ≡ ((n == m) && not (differ x y))
same_signs n m p true true low high = grind (arith, ints, nat_tests)
same_signs n m p true false low high = grind (arith, ints, nat_tests)
same_signs n m p false true low high = grind (arith, ints, nat_tests)
same_signs n m p false false low high = grind (arith, ints, nat_tests)

-- a test that goes on by one place
abbrev pub GoesOn : (ℕ → ℕ → Bool) → (Bool → Bool → Bool → Bool) → Type 0
GoesOn test step = (n m p : ℕ) (x y : Bool) → n < p → m < p → test (n + p * bit x) (m + p * bit y) ≡ step x y (test n m)

-- the first places of gates show a number below 2 to their number
low_below : (inputs : ℕ → Bool) (nodes : List Node) (gates : List ℕ) (i : ℕ) → i ≤ length gates → number (bits inputs nodes (take i gates)) < 2 ^ i
low_below inputs nodes gates i within =
    subst (λ n. number (bits inputs nodes (take i gates)) < 2 ^ n) (length-map (take i gates) (value inputs nodes) ∙ length-take-le i gates within)
    (number_below (bits inputs nodes (take i gates)))

pub tested_more : (test : ℕ → ℕ → Bool) (step : Bool → Bool → Bool → Bool) (old middle new : List Node) (a b : List ℕ) (i x y gate next : ℕ) → GoesOn test step
    → IsTested test old middle a b i gate → i < length a → i < length b → x ≡ get_or a i x → y ≡ get_or b i y → IsOf old x → IsOf old y
    → IsTruth new (λ inputs. step (value inputs middle x) (value inputs middle y) (value inputs middle gate)) next → Keeps middle new
    → IsTested test old new a b (i + 1) next
tested_more test step old middle new a b i x y gate next law tested in_a in_b at_x at_y of_x of_y truth grows = record {
  keeps = keeps_twice old middle new tested.keeps grows;
  of = truth.of;
  truth = λ inputs.
      truth.value_is inputs
      ∙ ap (λ v. step v (value inputs middle y) (value inputs middle gate)) (tested.keeps.values inputs x of_x)
      ∙ ap (λ v. step (value inputs old x) v (value inputs middle gate)) (tested.keeps.values inputs y of_y)
      ∙ ap (λ v. step (value inputs old x) (value inputs old y) v) (tested.truth inputs)
      ∙ sym (law (number (bits inputs old (take i a))) (number (bits inputs old (take i b))) (2 ^ i) (value inputs old x) (value inputs old y)
      (low_below inputs old a i (omega arith)) (low_below inputs old b i (omega arith)))
      ∙ ap (λ n. test n (number (bits inputs old (take i b)) + 2 ^ i * bit (value inputs old y))) (sym (number-take inputs old a i x in_a at_x))
      ∙ ap (λ n. test (number (bits inputs old (take (i + 1) a))) n) (sym (number-take inputs old b i y in_b at_y));
}

pub tested_none : (test : ℕ → ℕ → Bool) (old : List Node) (a b : List ℕ) (gate : ℕ) → IsOf old gate → ((inputs : ℕ → Bool) → value inputs old gate ≡ test 0 0) → IsTested test old old a b 0 gate
tested_none test old a b gate of is = record { keeps = keeps_same old old refl; of = of; truth = is }

-- a whole comparison, from that of the lower places and of the signs
pub compared : (of_signed : ℤ → ℤ → Bool) (test : ℕ → ℕ → Bool) (step : Bool → Bool → Bool → Bool) (old middle new : List Node) (a b : List ℕ) (top x y gate last : ℕ)
    → ((n m p : ℕ) (s t : Bool) → n < p → m < p → of_signed (pos n -ℤ pos (p * bit s)) (pos m -ℤ pos (p * bit t)) ≡ step s t (test n m))
    → length a ≡ suc top → length b ≡ suc top → IsTested test old middle a b top gate → x ≡ get_or a top x → y ≡ get_or b top y → IsOf old x → IsOf old y
    → IsTruth new (λ inputs. step (value inputs middle x) (value inputs middle y) (value inputs middle gate)) last
    → IsTruth new (λ inputs. of_signed (shown old a inputs) (shown old b inputs)) last
compared of_signed test step old middle new a b top x y gate last law long_a long_b tested at_x at_y of_x of_y truth = record {
  of = truth.of;
  value_is = λ inputs.
      truth.value_is inputs
      ∙ ap (λ v. step v (value inputs middle y) (value inputs middle gate)) (tested.keeps.values inputs x of_x)
      ∙ ap (λ v. step (value inputs old x) v (value inputs middle gate)) (tested.keeps.values inputs y of_y)
      ∙ ap (λ v. step (value inputs old x) (value inputs old y) v) (tested.truth inputs)
      ∙ sym (law (number (bits inputs old (take top a))) (number (bits inputs old (take top b))) (2 ^ top) (value inputs old x) (value inputs old y)
      (low_below inputs old a top (omega arith)) (low_below inputs old b top (omega arith)))
      ∙ ap (λ z. of_signed z (pos (number (bits inputs old (take top b))) -ℤ pos (2 ^ top * bit (value inputs old y)))) (sym (shown_split inputs old a top x long_a at_x))
      ∙ ap (λ z. of_signed (shown old a inputs) z) (sym (shown_split inputs old b top y long_b at_y));
}

-- A difference is a sum with the opposite bits and a carry.
use Rattle.std.proofs.Common.{◌≡◌, ℕ, ◌+◌, ◌-◌, ◌^◌, ◌<◌, Bool, true, false, not, List, [], ◌∷◌, length, map, get_or, refl, ap, ◌∙◌, arith, ℤ, pos, ◌+ℤ◌, ◌-ℤ◌, All}
use Rattle.std.specs.Prelude.{if◌then◌else◌}
use Rattle.std.proofs.lemmas.List.{length-map, get_or-map}
use Rattle.std.proofs.lemmas.Int.{ints}
use Rattle.std.proofs.lemmas.List.Elements.{All-map}
use Rattle.std.proofs.Math.Nat.{pow-suc}
use Rattle.gate_core.specs.declared.circuit.Node.{Node}
use Rattle.gate_core.specs.Circuit.{value, negation, IsOf}
use Rattle.gate_core.proofs.Conjunctions.{value-negation}
use Rattle.gate_arith.specs.Numbers.{bit, number, sign, signed, is_within}
use Rattle.gate_arith.specs.Operations.{bits, shown, IsNumber}

-- the same exact number, said in another way
pub number_same : (nodes : List Node) (width : ℕ) (exact other : (ℕ → Bool) → ℤ) (gates : List ℕ) (within : ℕ)
    → ((inputs : ℕ → Bool) → exact inputs ≡ other inputs) → IsNumber nodes width exact gates within → IsNumber nodes width other gates within
number_same nodes width exact other gates within same is = record {
  of = is.of;
  wide = is.wide;
  within_is = record { of = is.within_is.of; value_is = λ inputs. is.within_is.value_is inputs ∙ ap (is_within width) (same inputs) };
  number_is = λ inputs fits. is.number_is inputs (ap (is_within width) (same inputs) ∙ fits) ∙ same inputs;
}

-- the opposite bits show -1 less the number
pub number-opposite : (bs : List Bool) → number (map not bs) + number bs + 1 ≡ 2 ^ length bs
number-opposite [] = omega arith
number-opposite (true ∷ bs) = omega (arith, number-opposite bs, pow-suc 2 (length bs))
number-opposite (false ∷ bs) = omega (arith, number-opposite bs, pow-suc 2 (length bs))

sign-opposite : (bs : List Bool) → 0 < length bs → sign (map not bs) ≡ not (sign bs)
sign-opposite bs some =
    ap (λ n. get_or (map not bs) (n - 1) false) (length-map bs not) ∙ get_or-map not bs (length bs - 1) false false (omega arith)

opposite_by : (n : List Bool) (bs : List Bool) (s : Bool) → sign bs ≡ s → sign n ≡ not s → number n + number bs + 1 ≡ 2 ^ length bs → length n ≡ length bs
    → signed n ≡ (pos 0 -ℤ pos 1) -ℤ signed bs
opposite_by n bs true is_sign is_opposite sum long =
    ap (λ b. if b then pos (number n) -ℤ pos (2 ^ length n) else pos (number n)) is_opposite
    ∙ (let whole : signed bs ≡ pos (number bs) -ℤ pos (2 ^ length bs) = ap (λ b. if b then pos (number bs) -ℤ pos (2 ^ length bs) else pos (number bs)) is_sign in omega (arith, ints))
opposite_by n bs false is_sign is_opposite sum long =
    ap (λ b. if b then pos (number n) -ℤ pos (2 ^ length n) else pos (number n)) is_opposite
    ∙ (let whole : signed bs ≡ pos (number bs) = ap (λ b. if b then pos (number bs) -ℤ pos (2 ^ length bs) else pos (number bs)) is_sign in
    let power : 2 ^ length n ≡ 2 ^ length bs = ap (λ k. 2 ^ k) long in omega (arith, ints))

pub signed-opposite : (bs : List Bool) → 0 < length bs → signed (map not bs) ≡ (pos 0 -ℤ pos 1) -ℤ signed bs
signed-opposite bs some = opposite_by (map not bs) bs (sign bs) refl (sign-opposite bs some) (number-opposite bs) (length-map bs not)

-- the opposite gates
pub bits-opposite : (inputs : ℕ → Bool) (nodes : List Node) (gates : List ℕ) → bits inputs nodes (map negation gates) ≡ map not (bits inputs nodes gates)
bits-opposite inputs nodes [] = refl
bits-opposite inputs nodes (g ∷ gates) =
    ap (λ b. b ∷ map (value inputs nodes) (map negation gates)) (value-negation inputs nodes g) ∙ ap (λ bs. not (value inputs nodes g) ∷ bs) (bits-opposite inputs nodes gates)

negation_of : (nodes : List Node) (g : ℕ) → IsOf nodes g → IsOf nodes (negation g)
negation_of nodes g of = grind arith

pub opposites_of : (nodes : List Node) (gates : List ℕ) → All (IsOf nodes) gates → All (IsOf nodes) (map negation gates)
opposites_of nodes gates of = All-map (IsOf nodes) negation gates (λ k d within. negation_of nodes (get_or gates k d) (of k d within))

pub shown-opposite : (inputs : ℕ → Bool) (nodes : List Node) (gates : List ℕ) → 0 < length gates → shown nodes (map negation gates) inputs ≡ (pos 0 -ℤ pos 1) -ℤ shown nodes gates inputs
shown-opposite inputs nodes gates some =
    ap signed (bits-opposite inputs nodes gates) ∙ signed-opposite (bits inputs nodes gates) (omega (arith, length-map gates (value inputs nodes)))

-- a sum with a carry that is a constant
pub sum_of_none : (old new : List Node) (a b : List ℕ) (none width : ℕ) (gates : List ℕ) (within : ℕ) → ((inputs : ℕ → Bool) → value inputs old none ≡ false)
    → IsNumber new width (λ inputs. shown old a inputs +ℤ shown old b inputs +ℤ pos (bit (value inputs old none))) gates within
    → IsNumber new width (λ inputs. shown old a inputs +ℤ shown old b inputs) gates within
sum_of_none old new a b none width gates within is_false is =
    number_same new width (λ inputs. shown old a inputs +ℤ shown old b inputs +ℤ pos (bit (value inputs old none))) (λ inputs. shown old a inputs +ℤ shown old b inputs) gates within
    (λ inputs. ap (λ v. shown old a inputs +ℤ shown old b inputs +ℤ pos (bit v)) (is_false inputs) ∙ omega (arith, ints)) is

pub difference_of : (old new : List Node) (a b : List ℕ) (one width : ℕ) (gates : List ℕ) (within : ℕ) → ((inputs : ℕ → Bool) → value inputs old one ≡ true) → 0 < length b
    → IsNumber new width (λ inputs. shown old a inputs +ℤ shown old (map negation b) inputs +ℤ pos (bit (value inputs old one))) gates within
    → IsNumber new width (λ inputs. shown old a inputs -ℤ shown old b inputs) gates within
difference_of old new a b one width gates within is_true some is =
    number_same new width (λ inputs. shown old a inputs +ℤ shown old (map negation b) inputs +ℤ pos (bit (value inputs old one))) (λ inputs. shown old a inputs -ℤ shown old b inputs) gates within
    (λ inputs. ap (λ v. shown old a inputs +ℤ shown old (map negation b) inputs +ℤ pos (bit v)) (is_true inputs)
    ∙ ap (λ z. shown old a inputs +ℤ z +ℤ pos 1) (shown-opposite inputs old b some) ∙ omega (arith, ints)) is

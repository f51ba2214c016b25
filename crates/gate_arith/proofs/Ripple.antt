-- The carry ripples through a sum: what the places so far show.
use Rattle.std.proofs.Common.{◌≡◌, ℕ, ◌+◌, ◌*◌, ◌^◌, ◌<◌, Bool, List, [], ◌∷◌, ◌++◌, length, map, take, get_or, refl, sym, ap, ◌∙◌, arith, length-append, add-one, All}
use Rattle.std.proofs.lemmas.List.{take_more, map-append, length-map, length-take-le}
use Rattle.std.proofs.lemmas.List.Elements.{All-append, All-cons, All-head, All-tail}
use Rattle.std.proofs.Math.Nat.{pow-suc}
use Rattle.gate_core.specs.declared.circuit.Node.{Node}
use Rattle.gate_core.specs.Circuit.{value, IsOf, Keeps}
use Rattle.gate_core.proofs.Values.{keeps_same, keeps_twice, all_more}
use Rattle.gate_arith.specs.Numbers.{bit, number, signed}
use Rattle.gate_arith.specs.Operations.{bits, shown, AddsBits}
use Rattle.gate_arith.specs.Ripple.{IsPartial}

-- one place more
pub number-push : (xs : List Bool) (b : Bool) → number (xs ++ b ∷ []) ≡ number xs + 2 ^ length xs * bit b
number-push [] b = omega arith
number-push (x ∷ xs) b = omega (arith, number-push xs b, ap (λ p. p * bit b) (pow-suc 2 (length xs)))

-- gates that stand keep their values
pub bits_keep : (inputs : ℕ → Bool) (old new : List Node) (gates : List ℕ) → Keeps old new → All (IsOf old) gates → bits inputs new gates ≡ bits inputs old gates
bits_keep inputs old new [] keeps of = refl
bits_keep inputs old new (g ∷ gates) keeps of =
    ap (λ b. b ∷ map (value inputs new) gates) (keeps.values inputs g (All-head (IsOf old) g gates of))
    ∙ ap (λ bs. value inputs old g ∷ bs) (bits_keep inputs old new gates keeps (All-tail (IsOf old) g gates of))

-- one place more of a list of gates
pub number-take : (inputs : ℕ → Bool) (nodes : List Node) (gates : List ℕ) (i x : ℕ) → i < length gates → x ≡ get_or gates i x
    → number (bits inputs nodes (take (i + 1) gates)) ≡ number (bits inputs nodes (take i gates)) + 2 ^ i * bit (value inputs nodes x)
number-take inputs nodes gates i x within is =
    let longer : bits inputs nodes (take (i + 1) gates) ≡ bits inputs nodes (take i gates) ++ value inputs nodes x ∷ [] =
    ap (bits inputs nodes) (take_more gates i x within) ∙ map-append (value inputs nodes) (take i gates) (get_or gates i x ∷ [])
    ∙ ap (λ g. bits inputs nodes (take i gates) ++ value inputs nodes g ∷ []) (sym is) in
    let count : length (bits inputs nodes (take i gates)) ≡ i = length-map (take i gates) (value inputs nodes) ∙ length-take-le i gates (omega arith) in
    ap number longer ∙ number-push (bits inputs nodes (take i gates)) (value inputs nodes x)
    ∙ ap (λ n. number (bits inputs nodes (take i gates)) + 2 ^ n * bit (value inputs nodes x)) count

-- nothing is added yet
pub partial_none : (old : List Node) (a b : List ℕ) (first : ℕ) → IsOf old first → IsPartial old old a b first 0 [] first
partial_none old a b first of = record {
  keeps = keeps_same old old refl;
  of = λ k d within. absurd (omega arith);
  wide = refl;
  carry_of = of;
  sum_is = λ inputs. omega arith;
}

-- a place is added
pub partial_more : (old middle new : List Node) (a b : List ℕ) (first i x y carry s c : ℕ) (sum : List ℕ) → IsPartial old middle a b first i sum carry
    → i < length a → i < length b → x ≡ get_or a i x → y ≡ get_or b i y → IsOf old x → IsOf old y
    → AddsBits new (λ inputs. bit (value inputs middle x) + bit (value inputs middle y) + bit (value inputs middle carry)) s c → Keeps middle new
    → IsPartial old new a b first (i + 1) (sum ++ s ∷ []) c
partial_more old middle new a b first i x y carry s c sum part in_a in_b at_a at_b of_x of_y adds grows = record {
  keeps = keeps_twice old middle new part.keeps grows;
  of = All-append (IsOf new) sum (s ∷ []) (all_more middle new sum grows part.of) (All-cons (IsOf new) s [] adds.sum_of (λ k d within. absurd (omega arith)));
  wide = length-append sum (s ∷ []) ∙ (let w = part.wide in omega arith);
  carry_of = adds.carry_of;
  sum_is = λ inputs.
      let shown : number (bits inputs new (sum ++ s ∷ [])) ≡ number (bits inputs middle sum) + 2 ^ i * bit (value inputs new s) =
      ap number (map-append (value inputs new) sum (s ∷ []) ∙ ap (λ bs. bs ++ value inputs new s ∷ []) (bits_keep inputs middle new sum grows part.of))
      ∙ number-push (bits inputs middle sum) (value inputs new s)
      ∙ ap (λ n. number (bits inputs middle sum) + 2 ^ n * bit (value inputs new s)) (length-map sum (value inputs middle) ∙ part.wide) in
      let place : 2 ^ i * (bit (value inputs new s) + 2 * bit (value inputs new c)) ≡ 2 ^ i * (bit (value inputs old x) + bit (value inputs old y) + bit (value inputs middle carry)) =
      ap (λ n. 2 ^ i * n) (adds.sum_is inputs ∙ ap (λ v. bit v + bit (value inputs middle y) + bit (value inputs middle carry)) (part.keeps.values inputs x of_x)
      ∙ ap (λ v. bit (value inputs old x) + bit v + bit (value inputs middle carry)) (part.keeps.values inputs y of_y)) in
      let next : 2 ^ (i + 1) * bit (value inputs new c) ≡ 2 ^ i * 2 * bit (value inputs new c) = ap (λ p. p * bit (value inputs new c)) (ap (λ n. 2 ^ n) (add-one i) ∙ pow-suc 2 i) in
      omega (arith, part.sum_is inputs, shown, place, next, number-take inputs old a i x in_a at_a, number-take inputs old b i y in_b at_b);
}

-- the number that gates show stays
pub shown_keep : (inputs : ℕ → Bool) (old new : List Node) (gates : List ℕ) → Keeps old new → All (IsOf old) gates → shown new gates inputs ≡ shown old gates inputs
shown_keep inputs old new gates keeps of = ap signed (bits_keep inputs old new gates keeps of)

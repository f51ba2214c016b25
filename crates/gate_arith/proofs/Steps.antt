-- One step of a product: what is there is doubled, and the factor is added where its bit is set.
use Rattle.std.proofs.Common.{◌≡◌, ℕ, zero, suc, ◌+◌, ◌-◌, ◌*◌, ◌^◌, ◌<◌, Bool, true, false, not, ◌&&◌, List, [], ◌∷◌, ◌++◌, length, take, get_or, refl, sym, ap, subst, ◌∙◌, arith, add-one, ℤ, pos, ◌+ℤ◌, ◌-ℤ◌}
use Rattle.std.specs.Prelude.{if◌then◌else◌, replicate}
use Rattle.std.proofs.lemmas.Int.{ints}
use Rattle.std.proofs.lemmas.List.{map-append, length-map, length-take-le, get_or-map, get_or-take, take-take}
use Rattle.std.proofs.lemmas.List.Elements.{All-take}
use Rattle.std.proofs.lemmas.Bool.{false≢true}
use Rattle.std.proofs.Math.Nat.{pow-suc}
use Rattle.gate_core.specs.declared.circuit.Node.{Node}
use Rattle.gate_core.specs.Circuit.{value, IsOf, Keeps}
use Rattle.gate_core.proofs.Values.{keeps_twice, all_more}
use Rattle.gate_arith.specs.Numbers.{bit, number, sign, signed, is_within, differ}
use Rattle.gate_arith.specs.Operations.{bits, shown, IsTruth, IsNumber, IsSelected}
use Rattle.gate_arith.proofs.Ripple.{bits_keep, number-take}
use Rattle.gate_arith.proofs.Signed.{number_below}
use Rattle.gate_arith.proofs.Sums.{shown_split}
use Rattle.gate_arith.proofs.Counts.{number_zeros}
use Rattle.gate_arith.proofs.Products.{signed-cons, signed-extended, narrow_same, narrow_within, within_wider}

-- a list of false gates shows 0
zero_by : (bs : List Bool) (s : Bool) → sign bs ≡ s → number bs ≡ 0 → (s ≡ true → 0 < number bs) → signed bs ≡ pos 0
zero_by bs true is none some = absurd (omega (arith, some refl))
zero_by bs false is none some = ap (λ t. if t then pos (number bs) -ℤ pos (2 ^ length bs) else pos (number bs)) is ∙ ap (λ n. pos n) none

zero_sign : (bs : List Bool) (i : ℕ) → get_or bs i false ≡ true → 0 < number bs
zero_sign [] i h = absurd (false≢true h)
zero_sign (b ∷ bs) zero h = (let one : bit b ≡ 1 = ap bit h in omega arith)
zero_sign (b ∷ bs) (suc i) h = (let some = zero_sign bs i h in omega arith)

pub shown_zeros : (inputs : ℕ → Bool) (nodes : List Node) (none n : ℕ) → value inputs nodes none ≡ false → shown nodes (replicate n none) inputs ≡ pos 0
shown_zeros inputs nodes none n is_false =
    zero_by (bits inputs nodes (replicate n none)) (sign (bits inputs nodes (replicate n none))) refl (number_zeros inputs nodes none n is_false)
    (zero_sign (bits inputs nodes (replicate n none)) (length (bits inputs nodes (replicate n none)) - 1))

pub choose_by : (b : Bool) (xs zs : List Bool) → signed zs ≡ pos 0 → signed (if b then xs else zs) ≡ (if b then signed xs else pos 0)
choose_by true xs zs h = refl
choose_by false xs zs h = h

-- the factor where its bit is set, with its sign once more
pub shown_addend : (inputs : ℕ → Bool) (old new : List Node) (condition none : ℕ) (a addend : List ℕ) (x : ℕ) → value inputs old none ≡ false
    → IsSelected old new condition a (replicate (length a) none) addend → 0 < length a → x ≡ get_or addend (length a - 1) x
    → shown new (addend ++ x ∷ []) inputs ≡ (if value inputs old condition then shown old a inputs else pos 0)
shown_addend inputs old new condition none a addend x is_false chosen some at =
    let long : length addend ≡ length a = chosen.wide in
    let is_sign : value inputs new x ≡ sign (bits inputs new addend) =
    ap (value inputs new) at ∙ sym (get_or-map (value inputs new) addend (length a - 1) x false (omega arith))
    ∙ ap (λ n. get_or (bits inputs new addend) (n - 1) false) (sym long ∙ sym (length-map addend (value inputs new))) in
    ap signed (map-append (value inputs new) addend (x ∷ []) ∙ ap (λ v. bits inputs new addend ++ v ∷ []) is_sign)
    ∙ signed-extended (bits inputs new addend)
    ∙ ap signed (chosen.bits_are inputs)
    ∙ choose_by (value inputs old condition) (bits inputs old a) (bits inputs old (replicate (length a) none)) (shown_zeros inputs old none (length a) is_false)

-- the number doubled
pub shown_double : (inputs : ℕ → Bool) (nodes : List Node) (none : ℕ) (gates : List ℕ) → value inputs nodes none ≡ false → 0 < length gates
    → shown nodes (none ∷ gates) inputs ≡ shown nodes gates inputs +ℤ shown nodes gates inputs
shown_double inputs nodes none gates is_false some =
    ap (λ v. signed (v ∷ bits inputs nodes gates)) is_false ∙ signed-cons false (bits inputs nodes gates) (omega (arith, length-map gates (value inputs nodes))) ∙ omega (arith, ints)

-- a number whose two highest bits are known
pub both_by : (f g h : Bool) → (f ≡ true → g ≡ h) → (h ≡ true → f ≡ true) → (f && g) ≡ h
both_by true g h same wide = same refl
both_by false g true same wide = wide refl
both_by false g false same wide = refl

same_by : (x y : Bool) → not (differ x y) ≡ true → x ≡ y
same_by true true h = refl
same_by true false h = absurd (false≢true h)
same_by false true h = absurd (false≢true h)
same_by false false h = refl

-- the bits but the last of a number that is wider by one, with a gate that says whether it lies within one bit less
pub narrowed : (middle third new : List Node) (exact : (ℕ → Bool) → ℤ) (wide : List ℕ) (top fits y z agrees within : ℕ)
    → IsNumber middle (suc (suc top)) exact wide fits → y ≡ get_or wide top y → z ≡ get_or wide (suc top) z
    → IsTruth third (λ inputs. not (differ (value inputs middle y) (value inputs middle z))) agrees → Keeps middle third
    → IsTruth new (λ inputs. value inputs third fits && value inputs third agrees) within → Keeps third new
    → IsNumber new (suc top) exact (take (suc top) wide) within
narrowed middle third new exact wide top fits y z agrees within is at_y at_z agree second truth last =
    let kept : Keeps middle new = keeps_twice middle third new second last in
    let low : (ℕ → Bool) → ℕ = λ inputs. number (bits inputs middle (take top wide)) in
    let below : (inputs : ℕ → Bool) → low inputs < 2 ^ top =
    λ inputs. subst (λ n. low inputs < 2 ^ n) (length-map (take top wide) (value inputs middle) ∙ length-take-le top wide (let w = is.wide in omega arith)) (number_below (bits inputs middle (take top wide))) in
    let whole : (inputs : ℕ → Bool) → shown middle wide inputs ≡ pos (low inputs + 2 ^ top * bit (value inputs middle y)) -ℤ pos (2 ^ top * 2 * bit (value inputs middle z)) =
    λ inputs. shown_split inputs middle wide (suc top) z is.wide at_z
    ∙ ap (λ n. pos n -ℤ pos (2 ^ suc top * bit (value inputs middle z))) (ap (λ k. number (bits inputs middle (take k wide))) (sym (add-one top)) ∙ number-take inputs middle wide top y (let w = is.wide in omega arith) at_y)
    ∙ ap (λ p. pos (low inputs + 2 ^ top * bit (value inputs middle y)) -ℤ pos (p * bit (value inputs middle z))) (pow-suc 2 top) in
    let cut : (inputs : ℕ → Bool) → shown middle (take (suc top) wide) inputs ≡ pos (low inputs) -ℤ pos (2 ^ top * bit (value inputs middle y)) =
    λ inputs. shown_split inputs middle (take (suc top) wide) top y (length-take-le (suc top) wide (let w = is.wide in omega arith)) (at_y ∙ sym (get_or-take (suc top) wide top y (omega arith)))
    ∙ ap (λ gs. pos (number (bits inputs middle gs)) -ℤ pos (2 ^ top * bit (value inputs middle y))) (take-take top (suc top) wide (omega arith)) in
    let narrow : (inputs : ℕ → Bool) → is_within (suc top) (shown middle wide inputs) ≡ not (differ (value inputs middle y) (value inputs middle z)) =
    λ inputs. ap (is_within (suc top)) (whole inputs) ∙ narrow_within (suc top) (2 ^ top) (low inputs) (value inputs middle y) (value inputs middle z) (ap (λ n. 2 ^ n) (omega arith)) (below inputs) in
    let test : (inputs : ℕ → Bool) → value inputs new within ≡ is_within (suc top) (exact inputs) =
    λ inputs. truth.value_is inputs
    ∙ ap (λ v. v && value inputs third agrees) (second.values inputs fits is.within_is.of ∙ is.within_is.value_is inputs)
    ∙ ap (λ v. is_within (suc (suc top)) (exact inputs) && v) (agree.value_is inputs)
    ∙ both_by (is_within (suc (suc top)) (exact inputs)) (not (differ (value inputs middle y) (value inputs middle z))) (is_within (suc top) (exact inputs))
    (λ h. sym (narrow inputs) ∙ ap (is_within (suc top)) (is.number_is inputs h))
    (λ h. within_wider (suc top) (exact inputs) h) in
    record {
      of = all_more middle new (take (suc top) wide) kept (All-take (IsOf middle) (suc top) wide is.of);
      wide = length-take-le (suc top) wide (let w = is.wide in omega arith);
      within_is = record { of = truth.of; value_is = test };
      number_is = λ inputs h.
          let shows : shown middle wide inputs ≡ exact inputs = is.number_is inputs (within_wider (suc top) (exact inputs) h) in
          let same : value inputs middle y ≡ value inputs middle z =
          same_by (value inputs middle y) (value inputs middle z) (sym (narrow inputs) ∙ ap (is_within (suc top)) shows ∙ h) in
          ap signed (bits_keep inputs middle new (take (suc top) wide) kept (All-take (IsOf middle) (suc top) wide is.of))
          ∙ cut inputs
          ∙ sym (narrow_same (2 ^ top) (low inputs) (value inputs middle y))
          ∙ ap (λ v. pos (low inputs + 2 ^ top * bit (value inputs middle y)) -ℤ pos (2 ^ top * 2 * bit v)) same
          ∙ sym (whole inputs) ∙ shows;
    }

-- A product, from the products with the higher bits of the second factor.
use Rattle.std.proofs.Common.{◌≡◌, ℕ, suc, ◌+◌, ◌<◌, Bool, true, false, ◌&&◌, List, [], ◌∷◌, length, drop, get_or, refl, sym, ap, subst, ◌∙◌, arith, ℤ, pos, negsuc, ◌+ℤ◌, ◌-ℤ◌, ◌*ℤ◌, All}
use Rattle.std.specs.Prelude.{if◌then◌else◌, replicate}
use Rattle.std.proofs.lemmas.Int.{ints}
use Rattle.std.proofs.lemmas.List.{length-replicate, length-map, length-drop, get_or-map, drop_more, drop_all}
use Rattle.gate_core.specs.declared.circuit.Node.{Node}
use Rattle.gate_core.specs.Circuit.{value, IsOf, Keeps}
use Rattle.gate_core.proofs.Values.{all_more}
use Rattle.gate_arith.specs.Numbers.{bit, number, signed, is_within}
use Rattle.gate_arith.specs.Operations.{bits, shown, high, doubled_with, IsTruth, IsNumber, IsSelected}
use Rattle.gate_arith.proofs.Ripple.{shown_keep}
use Rattle.gate_arith.proofs.Products.{signed-cons, within_shorter, double_times}
use Rattle.gate_arith.proofs.Steps.{both_by, shown_zeros, choose_by}
use Rattle.gate_arith.proofs.Differences.{number_same}

high_step : (inputs : ℕ → Bool) (nodes : List Node) (gates : List ℕ) (place x : ℕ) → place + 1 < length gates → x ≡ get_or gates place x
    → high nodes gates place inputs ≡ pos (bit (value inputs nodes x)) +ℤ (high nodes gates (place + 1) inputs +ℤ high nodes gates (place + 1) inputs)
high_step inputs nodes gates place x within at =
    let long : length (bits inputs nodes gates) ≡ length gates = length-map gates (value inputs nodes) in
    ap signed (drop_more (bits inputs nodes gates) place false (omega arith))
    ∙ ap (λ v. signed (v ∷ drop (place + 1) (bits inputs nodes gates))) (get_or-map (value inputs nodes) gates place x false (omega arith) ∙ ap (value inputs nodes) (sym at))
    ∙ signed-cons (value inputs nodes x) (drop (place + 1) (bits inputs nodes gates)) (omega (arith, length-drop (place + 1) (bits inputs nodes gates)))

one_bit : (v : Bool) → signed (v ∷ []) ≡ (if v then pos 0 -ℤ pos 1 else pos 0)
one_bit true = refl
one_bit false = refl

pub high_top : (inputs : ℕ → Bool) (nodes : List Node) (gates : List ℕ) (top x : ℕ) → length gates ≡ suc top → x ≡ get_or gates top x
    → high nodes gates top inputs ≡ (if value inputs nodes x then pos 0 -ℤ pos 1 else pos 0)
high_top inputs nodes gates top x long at =
    let count : length (bits inputs nodes gates) ≡ length gates = length-map gates (value inputs nodes) in
    ap signed (drop_more (bits inputs nodes gates) top false (omega arith))
    ∙ ap (λ v. signed (v ∷ drop (top + 1) (bits inputs nodes gates))) (get_or-map (value inputs nodes) gates top x false (omega arith) ∙ ap (value inputs nodes) (sym at))
    ∙ ap (λ bs. signed (value inputs nodes x ∷ bs)) (drop_all (top + 1) (bits inputs nodes gates) (omega arith))
    ∙ one_bit (value inputs nodes x)

-- the product with the sign alone
times_sign : (a : ℤ) (v : Bool) → pos 0 -ℤ (if v then a else pos 0) ≡ a *ℤ (if v then pos 0 -ℤ pos 1 else pos 0)
times_sign (pos m) true = omega (arith, ints)
times_sign (pos m) false = omega (arith, ints)
times_sign (negsuc m) true = omega (arith, ints)
times_sign (negsuc m) false = omega (arith, ints)

pub product_first : (old middle new : List Node) (a b masked zeros : List ℕ) (none x top within : ℕ) (number : List ℕ) → ((inputs : ℕ → Bool) → value inputs old none ≡ false)
    → IsOf old none → length a ≡ suc top → length b ≡ suc top → x ≡ get_or b top x → zeros ≡ replicate (length a) none → IsSelected old middle x a zeros masked → Keeps old middle
    → All (IsOf old) zeros
    → IsNumber new (length zeros) (λ inputs. shown middle zeros inputs -ℤ shown middle masked inputs) number within
    → IsNumber new (length a) (λ inputs. shown old a inputs *ℤ high old b top inputs) number within
product_first old middle new a b masked zeros none x top within number is_false of_none long_a long_b at is_zeros chosen keeps of_zeros is =
    let wide : length zeros ≡ length a = ap length is_zeros ∙ length-replicate (length a) none in
    let shows_zeros : (inputs : ℕ → Bool) → shown old zeros inputs ≡ pos 0 =
    λ inputs. ap (λ gs. shown old gs inputs) is_zeros ∙ shown_zeros inputs old none (length a) (is_false inputs) in
    number_same new (length a) (λ inputs. shown middle zeros inputs -ℤ shown middle masked inputs) (λ inputs. shown old a inputs *ℤ high old b top inputs) number within
    (λ inputs.
    ap (λ z. z -ℤ shown middle masked inputs) (shown_keep inputs old middle zeros keeps of_zeros ∙ shows_zeros inputs)
    ∙ ap (λ z. pos 0 -ℤ z) (ap signed (chosen.bits_are inputs) ∙ choose_by (value inputs old x) (bits inputs old a) (bits inputs old zeros) (shows_zeros inputs))
    ∙ times_sign (shown old a inputs) (value inputs old x)
    ∙ ap (λ z. shown old a inputs *ℤ z) (sym (high_top inputs old b top x long_b at)))
    (subst (λ n. IsNumber new n (λ inputs. shown middle zeros inputs -ℤ shown middle masked inputs) number within) wide is)

-- the product with one bit more
pub product_more : (old middle third new : List Node) (a b : List ℕ) (place x within fits both width : ℕ) (number next : List ℕ) → place + 1 < length b → x ≡ get_or b place x → IsOf old x
    → All (IsOf old) a → Keeps old middle
    → IsNumber middle width (λ inputs. shown old a inputs *ℤ high old b (place + 1) inputs) number within
    → IsNumber third width (doubled_with middle x a number) next fits → Keeps middle third
    → IsTruth new (λ inputs. value inputs third within && value inputs third fits) both → Keeps third new
    → IsNumber new width (λ inputs. shown old a inputs *ℤ high old b place inputs) next both
product_more old middle third new a b place x within fits both width number next below at of_x of_a first before step second truth last =
    let q : (ℕ → Bool) → ℤ = high old b (place + 1) in
    let whole : (inputs : ℕ → Bool) → shown old a inputs *ℤ (pos (bit (value inputs old x)) +ℤ (q inputs +ℤ q inputs)) ≡ shown old a inputs *ℤ high old b place inputs =
    λ inputs. ap (λ z. shown old a inputs *ℤ z) (sym (high_step inputs old b place x below at)) in
    let goes_on : (inputs : ℕ → Bool) → is_within width (shown old a inputs *ℤ q inputs) ≡ true → doubled_with middle x a number inputs ≡ shown old a inputs *ℤ high old b place inputs =
    λ inputs h.
    ap (λ v. (if v then shown middle a inputs else pos 0) +ℤ (shown middle number inputs +ℤ shown middle number inputs)) (first.values inputs x of_x)
    ∙ ap (λ z. (if value inputs old x then z else pos 0) +ℤ (shown middle number inputs +ℤ shown middle number inputs)) (shown_keep inputs old middle a first of_a)
    ∙ ap (λ z. (if value inputs old x then shown old a inputs else pos 0) +ℤ (z +ℤ z)) (before.number_is inputs h)
    ∙ sym (double_times (shown old a inputs) (q inputs) (value inputs old x)) ∙ whole inputs in
    let shorter : (inputs : ℕ → Bool) → is_within width (shown old a inputs *ℤ high old b place inputs) ≡ true → is_within width (shown old a inputs *ℤ q inputs) ≡ true =
    λ inputs h. within_shorter width (shown old a inputs) (q inputs) (value inputs old x) (ap (is_within width) (whole inputs) ∙ h) in
    record {
      of = all_more third new next last step.of;
      wide = step.wide;
      within_is = record {
        of = truth.of;
        value_is = λ inputs.
            truth.value_is inputs
            ∙ ap (λ v. v && value inputs third fits) (second.values inputs within before.within_is.of ∙ before.within_is.value_is inputs)
            ∙ ap (λ v. is_within width (shown old a inputs *ℤ q inputs) && v) (step.within_is.value_is inputs)
            ∙ both_by (is_within width (shown old a inputs *ℤ q inputs)) (is_within width (doubled_with middle x a number inputs)) (is_within width (shown old a inputs *ℤ high old b place inputs))
            (λ h. ap (is_within width) (goes_on inputs h)) (shorter inputs);
      };
      number_is = λ inputs h.
          let doubled : doubled_with middle x a number inputs ≡ shown old a inputs *ℤ high old b place inputs = goes_on inputs (shorter inputs h) in
          shown_keep inputs third new next last step.of ∙ step.number_is inputs (ap (is_within width) doubled ∙ h) ∙ doubled;
    }

-- all bits are gone through
pub product_all : (old new : List Node) (a b number : List ℕ) (width within : ℕ) → IsNumber new width (λ inputs. shown old a inputs *ℤ high old b 0 inputs) number within
    → IsNumber new width (λ inputs. shown old a inputs *ℤ shown old b inputs) number within
product_all old new a b number width within is = is

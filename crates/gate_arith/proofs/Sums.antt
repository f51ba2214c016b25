-- The sum of two numbers in two's complement, from the sums of their lower places and of their signs.
use Rattle.std.proofs.Common.{◌≡◌, ℕ, suc, ◌+◌, ◌*◌, ◌^◌, ◌<◌, Bool, true, false, not, List, [], ◌∷◌, ◌++◌, length, take, get_or, refl, sym, ap, subst, ◌∙◌, arith, length-append, pos, ◌+ℤ◌, ◌-ℤ◌}
use Rattle.std.proofs.lemmas.List.{take_more, take_all, map-append, length-map, length-take-le}
use Rattle.std.proofs.lemmas.List.Elements.{All-append, All-cons}
use Rattle.std.proofs.lemmas.Bool.{false≢true, not-true}
use Rattle.gate_core.specs.declared.circuit.Node.{Node}
use Rattle.gate_core.specs.Circuit.{value, IsOf, Keeps}
use Rattle.gate_core.proofs.Values.{of_more, all_more, keeps_twice}
use Rattle.gate_arith.specs.Numbers.{bit, number, signed, is_within, differ}
use Rattle.gate_arith.specs.Operations.{bits, shown, AddsBits, IsTruth, IsNumber}
use Rattle.gate_arith.specs.Ripple.{IsPartial}
use Rattle.gate_arith.proofs.Ripple.{bits_keep}
use Rattle.gate_arith.proofs.Signed.{signed_push, number_below, IsSplit, exact_sum, sum_same, sum_within}

-- a list whose last element is known
pub last_apart : {X : Type 0} (xs : List X) (top : ℕ) (x : X) → length xs ≡ suc top → x ≡ get_or xs top x → xs ≡ take top xs ++ x ∷ []
last_apart xs top x long at =
    sym (take_all (top + 1) xs (omega arith)) ∙ take_more xs top x (omega arith) ∙ ap (λ y. take top xs ++ y ∷ []) (sym at)

-- the number that gates show, from its lower places and its sign
pub shown_split : (inputs : ℕ → Bool) (nodes : List Node) (gates : List ℕ) (top x : ℕ) → length gates ≡ suc top → x ≡ get_or gates top x
    → shown nodes gates inputs ≡ pos (number (bits inputs nodes (take top gates))) -ℤ pos (2 ^ top * bit (value inputs nodes x))
shown_split inputs nodes gates top x long at =
    let count : length (bits inputs nodes (take top gates)) ≡ top = length-map (take top gates) (value inputs nodes) ∙ length-take-le top gates (omega arith) in
    ap signed (ap (bits inputs nodes) (last_apart gates top x long at) ∙ map-append (value inputs nodes) (take top gates) (x ∷ []))
    ∙ signed_push (bits inputs nodes (take top gates)) (value inputs nodes x)
    ∙ ap (λ n. pos (number (bits inputs nodes (take top gates))) -ℤ pos (2 ^ n * bit (value inputs nodes x))) count

same_bits : (a b : Bool) → differ a b ≡ false → a ≡ b
same_bits true true h = refl
same_bits true false h = absurd (false≢true (sym h))
same_bits false true h = absurd (false≢true (sym h))
same_bits false false h = refl

pub sum_number : (old middle third new : List Node) (a b : List ℕ) (top first x y into s out wraps within : ℕ) (sum : List ℕ)
    → length a ≡ suc top → length b ≡ suc top → x ≡ get_or a top x → y ≡ get_or b top y → IsOf old x → IsOf old y
    → IsPartial old middle (take top a) (take top b) first top sum into
    → AddsBits third (λ inputs. bit (value inputs middle x) + bit (value inputs middle y) + bit (value inputs middle into)) s out → Keeps middle third
    → IsTruth new (λ inputs. differ (value inputs third into) (value inputs third out)) wraps → Keeps third new
    → IsOf new within → ((inputs : ℕ → Bool) → value inputs new within ≡ not (value inputs new wraps))
    → IsNumber new (suc top) (λ inputs. shown old a inputs +ℤ shown old b inputs +ℤ pos (bit (value inputs old first))) (sum ++ s ∷ []) within
sum_number old middle third new a b top first x y into s out wraps within sum long_a long_b at_x at_y of_x of_y part adds second truth last of_within negates =
    let kept : Keeps middle new = keeps_twice middle third new second last in
    let split : (inputs : ℕ → Bool) → IsSplit (2 ^ top) (number (bits inputs old (take top a))) (number (bits inputs old (take top b))) (number (bits inputs middle sum))
    (bit (value inputs old first)) (value inputs old x) (value inputs old y) (value inputs third s) (value inputs third into) (value inputs third out) =
    λ inputs. record {
      low = ap (λ v. number (bits inputs middle sum) + 2 ^ top * bit v) (second.values inputs into part.carry_of) ∙ part.sum_is inputs
          ∙ ap (λ xs. number (bits inputs old xs) + number (bits inputs old (take top (take top b))) + bit (value inputs old first)) (take_all top (take top a) (omega (arith, length-take-le top a (omega arith))))
          ∙ ap (λ xs. number (bits inputs old (take top a)) + number (bits inputs old xs) + bit (value inputs old first)) (take_all top (take top b) (omega (arith, length-take-le top b (omega arith))));
      signs = adds.sum_is inputs
          ∙ ap (λ v. bit v + bit (value inputs middle y) + bit (value inputs middle into)) (part.keeps.values inputs x of_x)
          ∙ ap (λ v. bit (value inputs old x) + bit v + bit (value inputs middle into)) (part.keeps.values inputs y of_y)
          ∙ ap (λ v. bit (value inputs old x) + bit (value inputs old y) + bit v) (sym (second.values inputs into part.carry_of));
      small = subst (λ n. number (bits inputs middle sum) < 2 ^ n) (length-map sum (value inputs middle) ∙ part.wide) (number_below (bits inputs middle sum));
    } in
    let exact : (inputs : ℕ → Bool) → shown old a inputs +ℤ shown old b inputs +ℤ pos (bit (value inputs old first))
    ≡ exact_sum (2 ^ top) (number (bits inputs old (take top a))) (number (bits inputs old (take top b))) (bit (value inputs old first)) (value inputs old x) (value inputs old y) =
    λ inputs. ap (λ z. z +ℤ shown old b inputs +ℤ pos (bit (value inputs old first))) (shown_split inputs old a top x long_a at_x)
    ∙ ap (λ z. (pos (number (bits inputs old (take top a))) -ℤ pos (2 ^ top * bit (value inputs old x))) +ℤ z +ℤ pos (bit (value inputs old first))) (shown_split inputs old b top y long_b at_y) in
    let is_within_is : (inputs : ℕ → Bool) → is_within (suc top) (shown old a inputs +ℤ shown old b inputs +ℤ pos (bit (value inputs old first))) ≡ not (differ (value inputs third into) (value inputs third out)) =
    λ inputs. ap (is_within (suc top)) (exact inputs)
    ∙ sum_within (suc top) (2 ^ top) (number (bits inputs old (take top a))) (number (bits inputs old (take top b))) (number (bits inputs middle sum)) (bit (value inputs old first))
    (value inputs old x) (value inputs old y) (value inputs third s) (value inputs third into) (value inputs third out) (ap (λ n. 2 ^ n) (omega arith)) (split inputs) in
    record {
      of = All-append (IsOf new) sum (s ∷ []) (all_more middle new sum kept part.of) (All-cons (IsOf new) s [] (of_more third new s last adds.sum_of) (λ k d h. absurd (omega arith)));
      wide = length-append sum (s ∷ []) ∙ (let w = part.wide in omega arith);
      within_is = record {
        of = of_within;
        value_is = λ inputs. negates inputs ∙ ap not (truth.value_is inputs) ∙ sym (is_within_is inputs);
      };
      number_is = λ inputs fits.
          let carries : value inputs third into ≡ value inputs third out =
          same_bits (value inputs third into) (value inputs third out) (not-true (differ (value inputs third into) (value inputs third out)) (sym (is_within_is inputs) ∙ fits)) in
          ap signed (map-append (value inputs new) sum (s ∷ []) ∙ ap (λ bs. bs ++ value inputs new s ∷ []) (bits_keep inputs middle new sum kept part.of)
          ∙ ap (λ v. bits inputs middle sum ++ v ∷ []) (last.values inputs s adds.sum_of))
          ∙ signed_push (bits inputs middle sum) (value inputs third s)
          ∙ ap (λ n. pos (number (bits inputs middle sum)) -ℤ pos (2 ^ n * bit (value inputs third s))) (length-map sum (value inputs middle) ∙ part.wide)
          ∙ sum_same (2 ^ top) (number (bits inputs old (take top a))) (number (bits inputs old (take top b))) (number (bits inputs middle sum)) (bit (value inputs old first))
          (value inputs old x) (value inputs old y) (value inputs third s) (value inputs third into)
          (subst (λ v. IsSplit (2 ^ top) (number (bits inputs old (take top a))) (number (bits inputs old (take top b))) (number (bits inputs middle sum)) (bit (value inputs old first))
          (value inputs old x) (value inputs old y) (value inputs third s) (value inputs third into) v) (sym carries) (split inputs))
          ∙ sym (exact inputs);
    }

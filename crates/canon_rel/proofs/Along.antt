-- Going along places: the first, and the rest.
use Rattle.std.proofs.Common.{◌≡◌, ℕ, suc, ◌-◌, ◌≤◌, Bool, true, not, ◌&&◌, ◌||◌, List, [], ◌∷◌, length, get_or, take, drop, take_all, sym, ap, ◌∙◌, arith}
use Rattle.std.specs.List.{list_all, position_or_len}
use Rattle.std.proofs.lemmas.Bool.{and_parts}
use Rattle.rel_core.specs.Reading.{Reading}
use Rattle.canon_rel.specs.declared.places.Place.{Place}
use Rattle.canon_rel.specs.Places.{is_within}
use Rattle.canon_rel.specs.Order.{has_at, comes_before}
use Rattle.canon_rel.proofs.SameObjects.{first_step}

abbrev pub rest_of : {A : Type 0} → List A → List A
rest_of xs = take (length xs - 1) (drop 1 xs)

taken_apart : {A : Type 0} (xs : List A) (d : A) → 1 ≤ length xs → xs ≡ get_or xs 0 d ∷ rest_of xs
taken_apart [] d some = absurd (omega (arith, some))
taken_apart (x ∷ xs) d some = ap (λ ys. x ∷ ys) (sym (take_all (suc (length xs) - 1) xs (omega arith)))

pub all_apart : {A : Type 0} (t : A → Bool) (xs : List A) (d : A) → 1 ≤ length xs → list_all t xs ≡ true → (t (get_or xs 0 d) ≡ true) × (list_all t (rest_of xs) ≡ true)
all_apart t xs d some all = and_parts (t (get_or xs 0 d)) (list_all t (rest_of xs)) (sym (ap (list_all t) (taken_apart xs d some)) ∙ all)

-- the first a comes before the first b: b is not here, and a is, or comes before b behind
pub comes_before_along : (m : Reading) (places : List Place) (a b : ℕ) (d : Place) (before passed here later : Bool) → 1 ≤ length places → list_all (is_within m.objects) places ≡ true
    → before ≡ (not passed && (here || later))
    → (is_within m.objects (get_or places 0 d) ≡ true → passed ≡ has_at m b (get_or places 0 d))
    → (is_within m.objects (get_or places 0 d) ≡ true → here ≡ has_at m a (get_or places 0 d))
    → (list_all (is_within m.objects) (rest_of places) ≡ true → later ≡ comes_before m (rest_of places) a b) → before ≡ comes_before m places a b
comes_before_along m places a b d before passed here later some all is is_passed is_here is_later =
    let parts = all_apart (is_within m.objects) places d some all in
    let one = get_or places 0 d in
    let behind = rest_of places in
    is ∙ ap (λ x. not x && (here || later)) (is_passed parts.0) ∙ ap (λ x. not (has_at m b one) && (x || later)) (is_here parts.0)
    ∙ ap (λ x. not (has_at m b one) && (has_at m a one || x)) (is_later parts.1)
    ∙ sym (ap (λ ps. comes_before m ps a b) (taken_apart places d some) ∙ first_step (has_at m a one) (has_at m b one) (position_or_len (has_at m a) behind) (position_or_len (has_at m b) behind))

-- A start that fits has one visit alone.
use Rattle.std.proofs.Common.{◌≡◌, ℕ, zero, suc, ◌+◌, ◌<◌, ◌≤◌, List, [], ◌∷◌, ◌++◌, length, Some, refl, sym, ◌∙◌, ap, subst, inl, inr, arith, take, drop, get_or, append_assoc}
use Rattle.std.specs.Prelude.{map, flat_map, slice_get, slice_index}
use Rattle.std.proofs.lemmas.Bool.{cases_lt, cases_eq}
use Rattle.std.proofs.lemmas.Grind.{flat_map-append}
use Rattle.std.proofs.lemmas.Option.{slice_get_within, get_or_from_slice_get, slice_get-get_or}
use Rattle.std.proofs.lemmas.List.{length-map, take-append-drop, take_all}
use Rattle.std.proofs.lemmas.List.Elements.{Contains-append_left, Contains-append_right}
use Rattle.heap_core.specs.declared.value.Value.{Value}
use Rattle.heap_core.specs.declared.value.Value.TheVariants.{Obj}
use Rattle.heap_core.specs.declared.start.Start.{Start}
use Rattle.heap_core.specs.Posed.{Posed}
use Rattle.heap_core.specs.Start.{Fits, Reached, root, held}
use Rattle.canonical_order.specs.Canonical.{cells_of, places, first_place, IsVisit}
use Rattle.canonical_order.proofs.FirstPlaces.{stays, first_within, contains_each, behind}
use Rattle.canonical_order.proofs.Rising.{rises_over}
use Rattle.canonical_order.proofs.Visited.{first_parts, rising_at, take_next, holds_cell}

rises_along : (s : Start) (order : List ℕ) → IsVisit s order → (i j a b : ℕ) → i < j → slice_get order i ≡ Some a → slice_get order j ≡ Some b → first_place (places s order) a < first_place (places s order) b
rises_along s order visit i j a b less first second =
    let f = first_place (places s order) in
    let long : length (map f order) ≡ length order = length-map order f in
    let inside : j < length order = slice_get_within order j b second in
    let up = rises_over (slice_index (map f order)) (length order) (λ o lt. visit.rising o (omega (arith, lt, long))) i j less inside in
    let at_i : slice_index (map f order) i ≡ f a = rising_at (places s order) order i (omega (arith, less, inside)) ∙ ap f (get_or_from_slice_get order i a 0 first) in
    let at_j : slice_index (map f order) j ≡ f b = rising_at (places s order) order j inside ∙ ap f (get_or_from_slice_get order j b 0 second) in
    omega (arith, up, at_i, at_j)

-- the places are those of the first k objects of the list, and then those of the others
parts_of : (s : Start) (order : List ℕ) (k : ℕ) → places s order ≡ first_parts s order k ++ flat_map (cells_of s.objects) (drop k order)
parts_of s order k =
    let roots = s.this ∷ s.args in
    let cells = cells_of s.objects in
    ap (λ xs. roots ++ flat_map cells xs) (sym (take-append-drop k order)) ∙ ap (λ xs. roots ++ xs) (flat_map-append cells (take k order) (drop k order)) ∙ sym (append_assoc roots (flat_map cells (take k order)) (flat_map cells (drop k order)))

-- what a list holds, and where it stands in its first part
taken : (order : List ℕ) (k j q : ℕ) → slice_get order j ≡ Some q → j < k → slice_get (take k order) j ≡ Some q
taken [] k j q there less = absurd (cc)
taken (o ∷ order) zero j q there less = absurd (omega arith)
taken (o ∷ order) (suc k) zero q there less = there
taken (o ∷ order) (suc k) (suc j) q there less = taken order k j q there (omega arith)

-- the object at place k of a visit is found among the places of those before it
next_there : (s : Start) (p : Posed) → Fits s p → (order : List ℕ) → IsVisit s order → (k x : ℕ) → slice_get order k ≡ Some x → first_place (first_parts s order k) x < length (first_parts s order k)
next_there s p fits order visit k x there =
    elim (cases_lt (first_place us x) (length us)) [
      | inl here ↦ here
      | inr not_here ↦
          let early = all_early not_here x (fits.all_reached x small) small in
          absurd (omega (arith, early.1, visit.each_once.apart early.0 k x early.2 there))
    ]
  where
    us : List Value
    us = first_parts s order k

    rest : List Value
    rest = flat_map (cells_of s.objects) (drop k order)

    small : x < length s.objects
    small = visit.each_once.within k x there

    -- where it is not, none of the later ones is
    earlier : length us ≤ first_place us x → (o : ℕ) → o < length s.objects → first_place us o < length us → (j : ℕ) × (j < k) × (slice_get order j ≡ Some o)
    earlier not_here o inside found =
        let at = visit.each_once.each o inside in
        let at_o : slice_get order at.0 ≡ Some o = slice_get-get_or order at.0 o at.1 ∙ ap Some at.2 in
        let split = parts_of s order k in
        let place_o : first_place (places s order) o ≡ first_place us o = ap (λ vs. first_place vs o) split ∙ stays us rest o found in
        let place_x : first_place (places s order) x ≡ length us + first_place rest x = ap (λ vs. first_place vs x) split ∙ behind us rest x not_here in
        elim (cases_lt at.0 k) [
          | inl before ↦ (at.0, before, at_o)
          | inr le ↦ elim (cases_eq k at.0) [
            | inl same ↦
                let e : Some x ≡ Some o = sym there ∙ ap (slice_get order) same ∙ at_o in
                let e' : x ≡ o = cc in
                absurd (omega (arith, found, ap (first_place us) e', not_here))
            | inr apart ↦
                absurd (omega (arith, rises_along s order visit k at.0 x o (omega (arith, le, apart)) there at_o, place_o, place_x, found))
          ]
        ]

    all_early : length us ≤ first_place us x → (o : ℕ) → Reached s o → o < length s.objects → (j : ℕ) × (j < k) × (slice_get order j ≡ Some o)
    all_early not_here _ (root o at_root) inside =
        earlier not_here o inside (first_within us o (Contains-append_left (s.this ∷ s.args) (flat_map (cells_of s.objects) (take k order)) (Obj o) at_root))
    all_early not_here _ (held q o y from held_there cell) inside =
        let in_heap : q < length s.objects = slice_get_within s.objects q y held_there in
        let at = all_early not_here q from in_heap in
        let here = holds_cell s q o y held_there cell in
        earlier not_here o inside (first_within us o (Contains-append_right (s.this ∷ s.args) (flat_map (cells_of s.objects) (take k order)) (Obj o) (contains_each (cells_of s.objects) (take k order) at.0 q (Obj o) (taken order k at.0 q at.2 at.1) here)))

of_taken : (order : List ℕ) (k j q : ℕ) → slice_get (take k order) j ≡ Some q → slice_get order j ≡ Some q
of_taken [] zero j q there = absurd (cc)
of_taken [] (suc k) j q there = absurd (cc)
of_taken (o ∷ order) zero j q there = absurd (cc)
of_taken (o ∷ order) (suc k) zero q there = there
of_taken (o ∷ order) (suc k) (suc j) q there = of_taken order k j q there

-- two visits that begin alike: what comes next in one stands here or later in the other
data From (a : List ℕ) (k x y : ℕ) : Type 0 where
  Here : x ≡ y → From a k x y
  Later : (j : ℕ) → k < j → slice_get a j ≡ Some y → From a k x y

from_here : (s : Start) (a b : List ℕ) → IsVisit s a → IsVisit s b → (k x y : ℕ) → take k a ≡ take k b → slice_get a k ≡ Some x → slice_get b k ≡ Some y → From a k x y
from_here s a b visit visit' k x y same first second =
    let at = visit.each_once.each y (visit'.each_once.within k y second) in
    let j = at.0 in
    let at_y : slice_get a j ≡ Some y = slice_get-get_or a j y at.1 ∙ ap Some at.2 in
    elim (cases_lt j k) [
      | inl before ↦
          let in_b : slice_get b j ≡ Some y = of_taken b k j y (ap (λ xs. slice_get xs j) (sym same) ∙ taken a k j y at_y before) in
          absurd (omega (arith, before, visit'.each_once.apart j k y in_b second))
      | inr le ↦ elim (cases_eq k j) [
        | inl here ↦
            let e : Some x ≡ Some y = sym first ∙ ap (slice_get a) here ∙ at_y in
            Here (cc)
        | inr apart ↦ Later j (omega (arith, le, apart)) at_y
      ]
    ]

-- of two objects that stand among the places before, the one that the visit has first has its first place
-- before the other's
before_it : (s : Start) (a : List ℕ) → IsVisit s a → (k j x y : ℕ) → k < j → slice_get a k ≡ Some x → slice_get a j ≡ Some y → (us : List Value) → first_parts s a k ≡ us → first_place us x < length us → first_place us y < length us → first_place us x < first_place us y
before_it s a visit k j x y less first second us is here here' =
    let rest = flat_map (cells_of s.objects) (drop k a) in
    let split : places s a ≡ us ++ rest = parts_of s a k ∙ ap (λ vs. vs ++ rest) is in
    omega (arith, rises_along s a visit k j x y less first second, ap (λ vs. first_place vs x) split, ap (λ vs. first_place vs y) split, stays us rest x here, stays us rest y here')

same_next : (s : Start) (p : Posed) → Fits s p → (a b : List ℕ) → IsVisit s a → IsVisit s b → (k x y : ℕ) → take k a ≡ take k b → slice_get a k ≡ Some x → slice_get b k ≡ Some y → x ≡ y
same_next s p fits a b visit visit' k x y same first second =
    let us = first_parts s a k in
    let alike : first_parts s b k ≡ us = ap (λ xs. (s.this ∷ s.args) ++ flat_map (cells_of s.objects) xs) (sym same) in
    let here : first_place us x < length us = next_there s p fits a visit k x first in
    let here' : first_place us y < length us = subst (λ vs. first_place vs y < length vs) alike (next_there s p fits b visit' k y second) in
    elim (from_here s a b visit visit' k x y same first second) [
      | Here e ↦ e
      | Later j less at_y ↦ elim (from_here s b a visit' visit k y x (sym same) second first) [
        | Here e ↦ sym e
        | Later i less' at_x ↦
            absurd (omega (arith, before_it s a visit k j x y less first at_y us refl here here', before_it s b visit' k i y x less' second at_x us alike here' here))
      ]
    ]

same_first : (s : Start) (p : Posed) → Fits s p → (a b : List ℕ) → IsVisit s a → IsVisit s b → (k : ℕ) → k ≤ length s.objects → take k a ≡ take k b
same_first s p fits a b visit visit' zero le = refl
same_first s p fits a b visit visit' (suc k) le =
    let before = same_first s p fits a b visit visit' k (omega arith) in
    let in_a : k < length a = omega (arith, le, visit.each_once.as_many) in
    let in_b : k < length b = omega (arith, le, visit'.each_once.as_many) in
    let x = get_or a k 0 in
    let y = get_or b k 0 in
    let first = slice_get-get_or a k 0 in_a in
    let second = slice_get-get_or b k 0 in_b in
    let e : k + 1 ≡ suc k = omega arith in
    ap (λ i. take i a) (sym e) ∙ take_next a k x first ∙ ap (λ xs. xs ++ x ∷ []) before ∙ ap (λ o. take k b ++ o ∷ []) (same_next s p fits a b visit visit' k x y before first second) ∙ sym (take_next b k y second) ∙ ap (λ i. take i b) e

pub one_visit : (s : Start) (p : Posed) → Fits s p → (a b : List ℕ) → IsVisit s a → IsVisit s b → a ≡ b
one_visit s p fits a b visit visit' =
    let n = length s.objects in
    sym (take_all n a (omega (arith, visit.each_once.as_many))) ∙ same_first s p fits a b visit visit' n (omega arith) ∙ take_all n b (omega (arith, visit'.each_once.as_many))

-- Literals in another order, and in the order of their variables.
use Rattle.std.proofs.Common.{◌≡◌, ◌≢◌, ℕ, zero, suc, ◌+◌, ◌/◌, ◌<◌, ◌≤◌, Bool, true, false, eqb, List, [], ◌∷◌, length, map, get_or, refl, sym, ap, ◌∙◌, inl, inr, arith, All}
use Rattle.std.specs.Prelude.{filter}
use Rattle.std.specs.List.{list_any, IsDistinct, AllByRecursion}
use Rattle.std.specs.List.Sorted.{IsPermutation, IsSorted, IsNonDecreasingBy, IsStrictlyIncreasing}
use Rattle.std.specs.Ordering.{nat_cmp}
use Rattle.std.proofs.lemmas.Bool.{or_parts}
use Rattle.std.proofs.lemmas.List.{get_or-map, length-map}
use Rattle.std.proofs.lemmas.List.Sorted.{list_any-IsPermutation, IsNonDecreasingBy-from_sort}
use Rattle.std.proofs.lemmas.Map.Keys.{IsDistinct-IsPermutation}
use Rattle.derivation.specs.Propagation.{once}
use Rattle.sat_watch.specs.Literals.{has, EachOnce}
use Rattle.sat_watch.proofs.LiteralLemmas.{tested, equal, unequal}

pub eqb_flips : (x y : ℕ) → eqb x y ≡ eqb y x
eqb_flips x y = elim (tested (eqb x y)) [
  | inl same ↦ let e : x ≡ y = equal x y same in let back : eqb y x ≡ true = grind (arith, e) in same ∙ sym back
  | inr other ↦ let d : y ≢ x = λ q. unequal x y other (sym q) in let back : eqb y x ≡ false = grind (arith, d) in other ∙ sym back
]

none_equal : (xs : List ℕ) (x : ℕ) → has xs x ≡ false → AllByRecursion (λ y. eqb x y ≡ false) xs
none_equal [] x h = tt
none_equal (y ∷ ys) x h = (eqb_flips x y ∙ (or_parts (eqb y x) (has ys x) h).0, none_equal ys x (or_parts (eqb y x) (has ys x) h).1)

equal_none : (xs : List ℕ) (x : ℕ) → AllByRecursion (λ y. eqb x y ≡ false) xs → has xs x ≡ false
equal_none [] x h = refl
equal_none (y ∷ ys) x h = rw (eqb_flips y x ∙ h.0) (equal_none ys x h.1)

distinct_once : (xs : List ℕ) → EachOnce xs → IsDistinct eqb xs
unfolding IsDistinct
distinct_once [] o = tt
distinct_once (x ∷ xs) o = (none_equal xs x o.0, distinct_once xs o.1)

once_distinct : (xs : List ℕ) → IsDistinct eqb xs → EachOnce xs
unfolding IsDistinct
once_distinct [] d = tt
once_distinct (x ∷ xs) d = (equal_none xs x d.0, once_distinct xs d.1)

pub once_moved : (xs ys : List ℕ) → IsPermutation xs ys → EachOnce xs → EachOnce ys
once_moved xs ys p o = once_distinct ys (IsDistinct-IsPermutation eqb eqb_flips xs ys p (distinct_once xs o))

pub has_moved : (xs ys : List ℕ) (lit : ℕ) → IsPermutation xs ys → has xs lit ≡ has ys lit
has_moved xs ys lit p = list_any-IsPermutation (λ y. eqb y lit) xs ys p

-- what stands in a list is a member, and a member stands somewhere
pub place_has : (xs : List ℕ) (k d : ℕ) → k < length xs → has xs (get_or xs k d) ≡ true
place_has [] k d l = absurd (omega arith)
place_has (x ∷ xs) zero d l = grind arith
place_has (x ∷ xs) (suc k) d l = grind (arith, place_has xs k d (omega arith))

pub has_place : (xs : List ℕ) (lit : ℕ) → has xs lit ≡ true → (k : ℕ) × (k < length xs) × (get_or xs k 0 ≡ lit)
has_place [] lit h = absurd (let both : false ≡ true = h in cc)
has_place (x ∷ xs) lit h = elim (tested (eqb x lit)) [
  | inl same ↦ (zero, omega arith, equal x lit same)
  | inr other ↦ let p = has_place xs lit (grind (arith, h, other)) in (suc p.0, omega (arith, p.1), p.2)
]

pub All_has : (P : ℕ → Type 0) (xs : List ℕ) → ((lit : ℕ) → has xs lit ≡ true → P lit) → All P xs
All_has P xs h k d l = h (get_or xs k d) (place_has xs k d l)

-- two places of literals that are each once have different ones
pub once_apart : (xs : List ℕ) (i j : ℕ) → EachOnce xs → i < j → j < length xs → get_or xs i 0 ≢ get_or xs j 0
once_apart [] i j o b l q = omega arith
once_apart (x ∷ xs) i zero o b l q = omega arith
once_apart (x ∷ xs) zero (suc j) o b l q =
    let h : has xs x ≡ true = ap (has xs) q ∙ place_has xs j 0 (omega arith) in let both : true ≡ false = sym h ∙ o.0 in cc
once_apart (x ∷ xs) (suc i) (suc j) o b l q = once_apart xs i j o.1 (omega arith) (omega arith) q

-- a part of literals that are each once
pub once_filter : (p : ℕ → Bool) (xs : List ℕ) → EachOnce xs → EachOnce (filter p xs)
once_filter p [] o = tt
once_filter p (x ∷ xs) o = elim (tested (p x)) [
  | inl kept ↦ rw kept ((none_left xs x o.0, once_filter p xs o.1))
  | inr dropped ↦ rw dropped (once_filter p xs o.1)
]
  where
    none_left : (ys : List ℕ) (y : ℕ) → has ys y ≡ false → has (filter p ys) y ≡ false
    none_left [] y h = refl
    none_left (z ∷ zs) y h = elim (tested (p z)) [
      | inl kept ↦ rw kept (rw ((or_parts (eqb z y) (has zs y) h).0) (none_left zs y (or_parts (eqb z y) (has zs y) h).1))
      | inr dropped ↦ rw dropped (none_left zs y (or_parts (eqb z y) (has zs y) h).1)
    ]

-- exactly the members that pass are members of a filtered list
pub filter_has : (p : ℕ → Bool) (xs : List ℕ) (lit : ℕ) → has (filter p xs) lit ≡ true → (has xs lit ≡ true) × (p lit ≡ true)
filter_has p [] lit h = absurd (let both : false ≡ true = h in cc)
filter_has p (x ∷ xs) lit h = elim (tested (p x)) [
  | inl kept ↦
      let g : has (x ∷ filter p xs) lit ≡ true = rw kept at h in
      elim (tested (eqb x lit)) [
        | inl same ↦ (grind (arith, same), ap p (sym (equal x lit same)) ∙ kept)
        | inr other ↦ let q = filter_has p xs lit (grind (arith, g, other)) in (grind (arith, q.0), q.1)
      ]
  | inr dropped ↦ let q = filter_has p xs lit (rw dropped at h) in (grind (arith, q.0), q.1)
]

pub has_filter : (p : ℕ → Bool) (xs : List ℕ) (lit : ℕ) → has xs lit ≡ true → p lit ≡ true → has (filter p xs) lit ≡ true
has_filter p [] lit h q = h
has_filter p (x ∷ xs) lit h q = elim (tested (eqb x lit)) [
  | inl same ↦ let kept : p x ≡ true = ap p (equal x lit same) ∙ q in rw kept (grind (arith, same))
  | inr other ↦
      let rest : has (filter p xs) lit ≡ true = has_filter p xs lit (grind (arith, h, other)) q in
      elim (tested (p x)) [ inl kept ↦ rw kept (grind (arith, rest)) | inr dropped ↦ rw dropped rest ]
]

-- the variables of literals in order rise, where none is there twice
vars_apart : (xs : List ℕ) (i j : ℕ) → once xs ≡ true → i < j → j < length xs → get_or xs i 0 / 2 ≢ get_or xs j 0 / 2
vars_apart [] i j o b l q = omega arith
vars_apart (x ∷ xs) i zero o b l q = omega arith
vars_apart (x ∷ xs) zero (suc j) o b l q =
    let some : list_any (λ other. eqb (other / 2) (x / 2)) xs ≡ true = found xs j (omega arith) (sym q) in
    let none : list_any (λ other. eqb (other / 2) (x / 2)) xs ≡ false = grind (arith, o) in
    let both : true ≡ false = sym some ∙ none in cc
  where
    found : (ys : List ℕ) (k : ℕ) → k < length ys → get_or ys k 0 / 2 ≡ x / 2 → list_any (λ other. eqb (other / 2) (x / 2)) ys ≡ true
    found [] k l e = absurd (omega arith)
    found (y ∷ ys) zero l e = let h : eqb (y / 2) (x / 2) ≡ true = grind (arith, e) in rw h refl
    found (y ∷ ys) (suc k) l e = let h : list_any (λ other. eqb (other / 2) (x / 2)) ys ≡ true = found ys k (omega arith) e in elim (tested (eqb (y / 2) (x / 2))) [ inl a ↦ rw a refl | inr a ↦ rw a h ]
vars_apart (x ∷ xs) (suc i) (suc j) o b l q = vars_apart xs i j (grind (arith, o)) (omega arith) (omega arith) q

pub rising_sorted : (xs : List ℕ) → IsSorted nat_cmp xs → once xs ≡ true → IsStrictlyIncreasing (map (λ lit. lit / 2) xs)
rising_sorted xs s o k l =
    let count : length (map (λ lit. lit / 2) xs) ≡ length xs = length-map xs (λ lit. lit / 2) in
    let next : k + 1 < length xs = omega arith in
    let up : IsNonDecreasingBy (λ x. x) xs = IsNonDecreasingBy-from_sort (λ x. x) xs s in
    let le : get_or xs k 0 ≤ get_or xs (k + 1) 0 = up k (k + 1) 0 (omega arith) next in
    let ne : get_or xs k 0 / 2 ≢ get_or xs (k + 1) 0 / 2 = vars_apart xs k (k + 1) o (omega arith) next in
    let one : get_or (map (λ lit. lit / 2) xs) k 0 ≡ get_or xs k 0 / 2 = get_or-map (λ lit. lit / 2) xs k 0 0 (omega arith) in
    let two : get_or (map (λ lit. lit / 2) xs) (k + 1) 0 ≡ get_or xs (k + 1) 0 / 2 = get_or-map (λ lit. lit / 2) xs (k + 1) 0 0 next in
    omega (arith, le, ne, one, two)

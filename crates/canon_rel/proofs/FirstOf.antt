-- First places, and whether some item passes, in lists that are put together.
use Rattle.std.proofs.Common.{◌≡◌, ℕ, zero, suc, ◌+◌, ◌<◌, ◌≤◌, Bool, true, not, ◌||◌, cond, eqb, List, [], ◌∷◌, ◌++◌, length, Some, inl, inr, refl, sym, ap, ◌∙◌, arith}
use Rattle.std.specs.Prelude.{map, flat_map, slice_get}
use Rattle.std.specs.List.{list_any, range_with_len, position_or_len}
use Rattle.std.proofs.lemmas.Bool.{false≢true, cases_Bool, cases_lt, eq-eqb, ne_eqb}
use Rattle.std.proofs.lemmas.Option.{slice_get_within, get_or_from_slice_get}
use Rattle.std.proofs.lemmas.List.Concat.{flat_map-cons}
use Rattle.std.proofs.lemmas.List.Folds.{prefix_len-append, list_any_at, list_any-append}
use Rattle.std.proofs.lemmas.List.Sums.{prefix_len-le-length, passes_at_first, fails_before_first}

-- an item of a list that passes
pub record IsFound {A : Type 0} (test : A → Bool) (xs : List A) : Type 0 where
  pub place : ℕ
  pub item : A
  pub there : slice_get xs place ≡ Some item
  pub passes : test item ≡ true

module _ {A : Type 0} (test : A → Bool) where
  pub found : (xs : List A) → list_any test xs ≡ true → IsFound test xs
  found [] is = absurd (false≢true is)
  found (x ∷ xs) is = elim (cases_Bool (test x)) [
    | inl here ↦ record { place = 0; item = x; there = refl; passes = here }
    | inr not_here ↦
        let rest = found xs (sym (ap (λ b. b || list_any test xs) not_here) ∙ is) in
        record { place = suc rest.place; item = rest.item; there = rest.there; passes = rest.passes }
  ]

  pub some_at : (xs : List A) (i : ℕ) (x : A) → slice_get xs i ≡ Some x → test x ≡ true → list_any test xs ≡ true
  some_at xs i x there passes = list_any_at test xs i x (slice_get_within xs i x there) (ap test (get_or_from_slice_get xs i x x there) ∙ passes)

  first_at_most : (xs : List A) → position_or_len test xs ≤ length xs
  first_at_most xs = prefix_len-le-length (λ x. not (test x)) xs

  longer : (xs ys : List A) → position_or_len test (xs ++ ys) ≡ cond (eqb (position_or_len test xs) (length xs)) (length xs + position_or_len test ys) (position_or_len test xs)
  longer xs ys = prefix_len-append (λ x. not (test x)) xs ys

  -- a first place stays where the list grows behind it
  pub stays : (xs ys : List A) → position_or_len test xs < length xs → position_or_len test (xs ++ ys) ≡ position_or_len test xs
  stays xs ys within =
      longer xs ys ∙ ap (λ b. cond b (length xs + position_or_len test ys) (position_or_len test xs)) (ne_eqb (position_or_len test xs) (length xs) (λ same. omega (arith, same, within)))

  pub behind : (xs ys : List A) → length xs ≤ position_or_len test xs → length xs ≤ position_or_len test (xs ++ ys)
  behind xs ys beyond =
      let all : position_or_len test (xs ++ ys) ≡ length xs + position_or_len test ys =
      longer xs ys ∙ ap (λ b. cond b (length xs + position_or_len test ys) (position_or_len test xs)) (eq-eqb (position_or_len test xs) (length xs) (omega (arith, beyond, first_at_most xs)))
      in
      omega (arith, all)

  -- one that is within the shorter list was its first place there
  pub was : (xs ys : List A) → position_or_len test (xs ++ ys) < length xs → position_or_len test (xs ++ ys) ≡ position_or_len test xs
  was xs ys within = elim (cases_lt (position_or_len test xs) (length xs)) [
    | inl before ↦ stays xs ys before
    | inr beyond ↦ absurd (omega (arith, within, behind xs ys beyond))
  ]

  -- some item passes exactly where the first place is within the list
  pub first_within : (xs : List A) → list_any test xs ≡ true → position_or_len test xs < length xs
  first_within xs is = elim (cases_lt (position_or_len test xs) (length xs)) [
    | inl before ↦ before
    | inr beyond ↦
        let one = found xs is in
        let inside : one.place < length xs = slice_get_within xs one.place one.item one.there in
        absurd (false≢true (sym (fails_before_first test xs one.place one.item (omega (arith, inside, beyond))) ∙ ap test (get_or_from_slice_get xs one.place one.item one.item one.there)
        ∙ one.passes))
  ]

  pub some_from_first : (xs : List A) (d : A) → position_or_len test xs < length xs → list_any test xs ≡ true
  some_from_first xs d within = list_any_at test xs (position_or_len test xs) d within (passes_at_first test xs d within)

  pub some_of_flat : {B : Type 0} (f : B → List A) (ys : List B) → list_any test (flat_map f ys) ≡ list_any (λ y. list_any test (f y)) ys
  some_of_flat f [] = refl
  some_of_flat f (y ∷ ys) =
      ap (list_any test) (flat_map-cons f y ys) ∙ list_any-append test (f y) (flat_map f ys) ∙ ap (λ b. list_any test (f y) || b) (some_of_flat f ys)

  pub some_of_map : {B : Type 0} (f : B → A) (ys : List B) → list_any test (map f ys) ≡ list_any (λ y. test (f y)) ys
  some_of_map f [] = refl
  some_of_map f (y ∷ ys) = ap (λ b. test (f y) || b) (some_of_map f ys)

-- a range is cut in two
pub range_cut : (a j k : ℕ) → range_with_len a (j + k) ≡ range_with_len a j ++ range_with_len (a + j) k
range_cut a zero k = rw (zero_plus k, zero_behind a) refl
  where
    zero_plus : (k : ℕ) → 0 + k ≡ k
    zero_plus k = omega arith

    zero_behind : (a : ℕ) → a + 0 ≡ a
    zero_behind a = omega arith
range_cut a (suc j) k =
    let one_more : suc j + k ≡ suc (j + k) = omega arith in
    let later : a + 1 + j ≡ a + suc j = omega arith in
    ap (range_with_len a) one_more ∙ ap (λ ns. a ∷ ns) (range_cut (a + 1) j k) ∙ ap (λ b. a ∷ (range_with_len (a + 1) j ++ range_with_len b k)) later

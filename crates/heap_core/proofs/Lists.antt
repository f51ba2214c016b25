-- Items of lists: where one was set, in two lists that go side by side.
use Rattle.std.proofs.Common.{◌≡◌, ℕ, zero, suc, ◌<◌, ◌+◌, Bool, true, ◌||◌, List, [], ◌∷◌, ◌++◌, length, Some, refl, sym, ◌∙◌, ap, inl, inr, arith, set}
use Rattle.std.specs.Prelude.{◌==◌, map, filter, position, slice_get}
use Rattle.std.specs.List.{list_all, list_any, position_or_len}
use Rattle.std.specs.Cmp.Lexicographic.{pointwise}
use Rattle.std.proofs.lemmas.Bool.{false≢true, cases_Bool, and_parts, and_from, eqb-true}
use Rattle.std.proofs.lemmas.Grind.{common_steps}
use Rattle.std.proofs.lemmas.Map.Views.{any-filter_same}

pub set_at : {A : Type 0} (xs : List A) (i : ℕ) (v : A) → i < length xs → slice_get (set xs i v) i ≡ Some v
set_at [] i v inside = absurd (omega (arith, inside))
set_at (x ∷ xs) zero v inside = refl
set_at (x ∷ xs) (suc i) v inside = set_at xs i v (omega (arith, inside))

pub set_apart : {A : Type 0} (xs : List A) (i k : ℕ) (v : A) → (i ≡ k → ⊥) → slice_get (set xs i v) k ≡ slice_get xs k
set_apart [] i k v apart = refl
set_apart (x ∷ xs) zero zero v apart = absurd (apart refl)
set_apart (x ∷ xs) zero (suc k) v apart = refl
set_apart (x ∷ xs) (suc i) zero v apart = refl
set_apart (x ∷ xs) (suc i) (suc k) v apart = set_apart xs i k v (λ same. apart (ap suc same))

pub slice_get-append_left : {A : Type 0} (xs ys : List A) (i : ℕ) → i < length xs → slice_get (xs ++ ys) i ≡ slice_get xs i
slice_get-append_left [] ys i within = absurd (omega arith)
slice_get-append_left (x ∷ xs) ys zero within = refl
slice_get-append_left (x ∷ xs) ys (suc i) within = slice_get-append_left xs ys i (omega arith)

pub slice_get-append_right : {A : Type 0} (xs ys : List A) (i : ℕ) → slice_get (xs ++ ys) (length xs + i) ≡ slice_get ys i
slice_get-append_right [] ys i = ap (slice_get ys) (omega arith)
slice_get-append_right (x ∷ xs) ys i =
    let e : suc (length xs) + i ≡ suc (length xs + i) = omega arith in
    ap (slice_get (x ∷ (xs ++ ys))) e ∙ slice_get-append_right xs ys i

-- each item of a list that passes whole passes
pub all_at : {A : Type 0} (test : A → Bool) (xs : List A) (i : ℕ) (x : A) → list_all test xs ≡ true → slice_get xs i ≡ Some x → test x ≡ true
all_at test [] i x all there = absurd (cc)
all_at test (y ∷ xs) zero x all there =
    let same : y ≡ x = cc in
    ap test (sym same) ∙ (and_parts (test y) (list_all test xs) all).0
all_at test (y ∷ xs) (suc i) x all there = all_at test xs i x (and_parts (test y) (list_all test xs) all).1 there

-- a list passes whole where each item does
pub all_from : {A : Type 0} (test : A → Bool) (xs : List A) → ((i : ℕ) (x : A) → slice_get xs i ≡ Some x → test x ≡ true) → list_all test xs ≡ true
all_from test [] each = refl
all_from test (x ∷ xs) each = and_from (test x) (list_all test xs) (each 0 x refl) (all_from test xs (λ i y there. each (suc i) y there))

-- of two lists that go side by side, the second has an item where the first has one, and the two fit
pub beside : {A B : Type 0} (fits : A → B → Bool) (xs : List A) (ys : List B) (i : ℕ) (x : A) → pointwise fits xs ys ≡ true → slice_get xs i ≡ Some x → (y : B) × (slice_get ys i ≡ Some y) × (fits x y ≡ true)
beside fits [] ys i x all there = absurd (cc)
beside fits (z ∷ xs) [] i x all there = absurd (false≢true all)
beside fits (z ∷ xs) (y ∷ ys) zero x all there =
    let same : z ≡ x = cc in
    (y, refl, ap (λ w. fits w y) (sym same) ∙ (and_parts (fits z y) (pointwise fits xs ys) all).0)
beside fits (z ∷ xs) (y ∷ ys) (suc i) x all there = beside fits xs ys i x (and_parts (fits z y) (pointwise fits xs ys) all).1 there

-- they still do, where an item of the second is replaced by one that fits
pub beside_set : {A B : Type 0} (fits : A → B → Bool) (xs : List A) (ys : List B) (i : ℕ) (x : A) (v : B) → pointwise fits xs ys ≡ true → slice_get xs i ≡ Some x → fits x v ≡ true → pointwise fits xs (set ys i v) ≡ true
beside_set fits [] ys i x v all there is = absurd (cc)
beside_set fits (z ∷ xs) [] i x v all there is = absurd (false≢true all)
beside_set fits (z ∷ xs) (y ∷ ys) zero x v all there is =
    let same : z ≡ x = cc in
    and_from (fits z v) (pointwise fits xs ys) (ap (λ w. fits w v) same ∙ is) (and_parts (fits z y) (pointwise fits xs ys) all).1
beside_set fits (z ∷ xs) (y ∷ ys) (suc i) x v all there is =
    and_from (fits z y) (pointwise fits xs (set ys i v)) (and_parts (fits z y) (pointwise fits xs ys) all).0 (beside_set fits xs ys i x v (and_parts (fits z y) (pointwise fits xs ys) all).1 there is)

-- they still do, by a test that passes wherever the first does
pub beside_more : {A B : Type 0} (fits other : A → B → Bool) → ((x : A) (y : B) → fits x y ≡ true → other x y ≡ true) → (xs : List A) (ys : List B) → pointwise fits xs ys ≡ true → pointwise other xs ys ≡ true
beside_more fits other more [] [] all = refl
beside_more fits other more [] (y ∷ ys) all = all
beside_more fits other more (x ∷ xs) [] all = all
beside_more fits other more (x ∷ xs) (y ∷ ys) all =
    let parts = and_parts (fits x y) (pointwise fits xs ys) all in
    and_from (other x y) (pointwise other xs ys) (more x y parts.0) (beside_more fits other more xs ys parts.1)

-- a list beside its image fits where each item fits its own
pub beside_map : {A B : Type 0} (fits : A → B → Bool) (image : A → B) (xs : List A) → ((i : ℕ) (x : A) → slice_get xs i ≡ Some x → fits x (image x) ≡ true) → pointwise fits xs (map image xs) ≡ true
beside_map fits image [] each = refl
beside_map fits image (x ∷ xs) each = and_from (fits x (image x)) (pointwise fits xs (map image xs)) (each 0 x refl) (beside_map fits image xs (λ i y there. each (suc i) y there))

-- some item passes, so the first that does has a place
first_found : {A : Type 0} (test : A → Bool) (xs : List A) → list_any test xs ≡ true → position_or_len test xs < length xs
first_found test [] is = absurd (false≢true is)
first_found test (x ∷ xs) is =
    elim (cases_Bool (test x)) [
      | inl here ↦ rw here (omega arith)
      | inr not_here ↦
          let rest : list_any test xs ≡ true = sym (ap (λ b. b || list_any test xs) not_here) ∙ is in
          rw not_here (omega (arith, first_found test xs rest))
    ]

pub place_found : {A : Type 0} (test : A → Bool) (xs : List A) → list_any test xs ≡ true → (i : ℕ) × (position test xs ≡ Some i)
place_found test xs is =
    let within : position_or_len test xs < length xs = first_found test xs is in
    (position_or_len test xs, grind (arith, common_steps, within))

-- what is filtered passes, and what passes is filtered
pub all_filtered : {A : Type 0} (test : A → Bool) (xs : List A) → list_all test (filter test xs) ≡ true
all_filtered test [] = refl
all_filtered test (x ∷ xs) =
    elim (cases_Bool (test x)) [
      | inl here ↦ rw (here, here) (all_filtered test xs)
      | inr not_here ↦ rw not_here (all_filtered test xs)
    ]

pub any_filtered : (test : ℕ → Bool) (f : ℕ) → test f ≡ true → (xs : List ℕ) → list_any (λ g. g == f) xs ≡ true → list_any (λ g. g == f) (filter test xs) ≡ true
any_filtered test f passes xs is =
    any-filter_same (λ g. g == f) test true (λ g same. ap test (eqb-true g f same) ∙ passes) xs ∙ is

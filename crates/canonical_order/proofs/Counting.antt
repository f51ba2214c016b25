-- Lists that are put together from lists of one length: how long they are, and what stands where.
use Rattle.std.proofs.Common.{◌≡◌, ℕ, zero, suc, ◌+◌, ◌*◌, ◌<◌, Bool, true, false, cond, List, [], ◌∷◌, ◌++◌, length, Some, refl, ap, sym, ◌∙◌, arith}
use Rattle.std.specs.Prelude.{filter, flat_map, slice_get, count_by}
use Rattle.std.specs.List.{range_with_len}
use Rattle.std.specs.Option.{option_map_or}
use Rattle.std.proofs.lemmas.List.Concat.{flat_map-cons}
use Rattle.std.proofs.lemmas.List.{length-append}
use Rattle.std.proofs.lemmas.List.Sums.{sum_by-cons}
use Rattle.std.proofs.lemmas.List.FromFn.{length-range_with_len}
use Rattle.std.proofs.lemmas.Option.{slice_get_within}
use Rattle.heap_core.proofs.Lists.{slice_get-append_left, slice_get-append_right}

-- lists of n elements each
pub length-each : {A B : Type 0} (f : A → List B) (n : ℕ) (xs : List A) → ((x : A) → length (f x) ≡ n) → length (flat_map f xs) ≡ length xs * n
length-each f n [] each = omega arith
length-each f n (x ∷ xs) each =
    omega (arith, ap length (flat_map-cons f x xs), length-append (f x) (flat_map f xs), each x, length-each f n xs each)

pub slice_get-each : {A B : Type 0} (f : A → List B) (n : ℕ) (xs : List A) → ((x : A) → length (f x) ≡ n) → (i j : ℕ) (x : A) → slice_get xs i ≡ Some x → j < n → slice_get (flat_map f xs) (i * n + j) ≡ slice_get (f x) j
slice_get-each f n [] each i j x there within = absurd (cc)
slice_get-each f n (y ∷ ys) each zero j x there within =
    let same : y ≡ x = cc in
    let at : 0 * n + j ≡ j = omega arith in
    let inside : j < length (f y) = omega (arith, each y) in
    ap (λ xs. slice_get xs (0 * n + j)) (flat_map-cons f y ys) ∙ ap (slice_get (f y ++ flat_map f ys)) at ∙ slice_get-append_left (f y) (flat_map f ys) j inside ∙ ap (λ z. slice_get (f z) j) same
slice_get-each f n (y ∷ ys) each (suc i) j x there within =
    let at : suc i * n + j ≡ length (f y) + (i * n + j) = omega (arith, each y) in
    ap (λ xs. slice_get xs (suc i * n + j)) (flat_map-cons f y ys) ∙ ap (slice_get (f y ++ flat_map f ys)) at ∙ slice_get-append_right (f y) (flat_map f ys) (i * n + j) ∙ slice_get-each f n ys each i j x there within

kept_one : (g t : Bool) → g ≡ t → (ys : List ℕ) (a c : ℕ) → length ys ≡ c → length (cond g (a ∷ ys) ys) ≡ cond t 1 0 + c
kept_one true true same ys a c is = omega arith
kept_one false false same ys a c is = omega arith
kept_one true false same ys a c is = absurd (cc)
kept_one false true same ys a c is = absurd (cc)

-- the places of a list at which a test passes
count_from : {A : Type 0} (test : A → Bool) (xs : List A) (a : ℕ) (g : ℕ → Bool) → ((i : ℕ) → g (a + i) ≡ option_map_or test (slice_get xs i) false) → length (filter g (range_with_len a (length xs))) ≡ count_by test xs
count_from test [] a g same = refl
count_from test (x ∷ xs) a g same =
    let here : g a ≡ test x = ap g (omega arith) ∙ same 0 in
    let rest : length (filter g (range_with_len (a + 1) (length xs))) ≡ count_by test xs =
    count_from test xs (a + 1) g (λ i. ap g (omega arith) ∙ same (suc i))
    in
    kept_one (g a) (test x) here (filter g (range_with_len (a + 1) (length xs))) a (count_by test xs) rest ∙ sym (sum_by-cons (λ y. cond (test y) 1 0) x xs)

pub count_at : {A : Type 0} (test : A → Bool) (xs : List A) → length (filter (λ i. option_map_or test (slice_get xs i) false) (range_with_len 0 (length xs))) ≡ count_by test xs
count_at test xs = count_from test xs 0 (λ i. option_map_or test (slice_get xs i) false) (λ i. ap (λ k. option_map_or test (slice_get xs k) false) (omega arith))

pub slice_get-range : (a n i : ℕ) → i < n → slice_get (range_with_len a n) i ≡ Some (a + i)
slice_get-range a zero i within = absurd (omega arith)
slice_get-range a (suc n) zero within = ap Some (omega arith)
slice_get-range a (suc n) (suc i) within = slice_get-range (a + 1) n i (omega arith) ∙ ap Some (omega arith)

-- what a range has at a place
pub range_at : (n i o : ℕ) → slice_get (range_with_len 0 n) i ≡ Some o → (i < n) × (o ≡ i)
range_at n i o there =
    let inside : i < n = omega (arith, slice_get_within (range_with_len 0 n) i o there, length-range_with_len 0 n) in
    let same : Some (0 + i) ≡ Some o = sym (slice_get-range 0 n i inside) ∙ there in
    let equal : 0 + i ≡ o = cc in
    (inside, omega (arith, equal))

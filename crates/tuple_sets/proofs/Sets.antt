-- What a set has after a bit or a word of it has changed.
use Rattle.std.proofs.Common.{◌≡◌, ◌≢◌, ℕ, zero, suc, ◌+◌, ◌-◌, ◌*◌, ◌/◌, ◌%◌, ◌^◌, ◌<◌, ◌≤◌, ◌⊎◌, inl, inr, List, [], ◌∷◌, length, get_or, set, map, refl, sym, ap, ◌∙◌, arith, get_or-set_same, get_or-set_other, length-set, ⊎_elim, min, max, bit_and, bit_or, lt_of_not-le, eqb, ne_eqb}
use Rattle.std.specs.Prelude.{zip}
use Rattle.std.proofs.Math.Nat.{mod-lt, mod-eq_of_lt, div-add-mod', zero-mul, one-mul}
use Rattle.std.proofs.lemmas.Nat.{pow_below, pow_pos}
use Rattle.std.specs.Int.{bit_at, bit_not, w64}
use Rattle.std.proofs.lemmas.Nat.Bits.{and_pow, bit_at-lt, bit_at_and, bit_at_or, bit_at-zero, bit_at_set_same, bit_at_set_other, bit_at_clear_same, bit_at_clear_other, bit_at_ones, bit_at_ones_above}
use Rattle.std.proofs.lemmas.List.{ext_get_or, length-map, get_or-replicate, get_or_past, set_past, length-replicate}
use Rattle.std.proofs.lemmas.List.FromFn.{get_or-map-range_with_len, length-map-range_with_len}
use Rattle.std.proofs.lemmas.Slice.Zip.{length-zip}
use native.Mathlib.Decide.{ℕ_discrete, dec_le}
use mathlib.Core.Logic.{dite}
use Rattle.tuple_sets.specs.Words.{has, one_bit, with_bits, gain, lose, read_word, meet, union, words_for, first_bits, all_below, none_of}

-- no number is in a set twice
pub has-le : (ws : List ℕ) (t : ℕ) → has ws t ≤ 1
unfolding has
has-le ws t = let h = bit_at-lt (get_or ws (t / 64) 0) (t % 64) in omega arith

pub has_cases : (ws : List ℕ) (t : ℕ) → (has ws t ≡ 0) ⊎ (has ws t ≡ 1)
has_cases ws t = dite (ℕ_discrete (has ws t) 0) inl (λ n. inr (let h = has-le ws t in omega arith))

-- what a number's bit is, where its word is known
pub has_word : (ws : List ℕ) (t i n : ℕ) → t / 64 ≡ i → get_or ws i 0 ≡ n → has ws t ≡ bit_at n (t % 64)
unfolding has
has_word ws t i n e h = ap (λ k. bit_at (get_or ws k 0) (t % 64)) e ∙ ap (λ m. bit_at m (t % 64)) h

pub has-set_same : (ws : List ℕ) (i n t : ℕ) → t / 64 ≡ i → i < length ws → has (set ws i n) t ≡ bit_at n (t % 64)
has-set_same ws i n t e h = has_word (set ws i n) t i n e (get_or-set_same ws i n 0 h)

pub has-set_other : (ws : List ℕ) (i n t : ℕ) → t / 64 ≢ i → has (set ws i n) t ≡ has ws t
unfolding has
has-set_other ws i n t e = ap (λ m. bit_at m (t % 64)) (get_or-set_other ws i (t / 64) n 0 e)

pub has-past : (ws : List ℕ) (t : ℕ) → length ws ≤ t / 64 → has ws t ≡ 0
unfolding has
has-past ws t h = ap (λ m. bit_at m (t % 64)) (get_or_past ws (t / 64) 0 h) ∙ bit_at-zero (t % 64)

-- two numbers of one word differ in their bits
pub bits_differ : (t u : ℕ) → u ≢ t → u / 64 ≡ t / 64 → u % 64 ≢ t % 64
bits_differ t u ne e h = ne (omega (arith, div-add-mod' t 64, div-add-mod' u 64))

-- where the word of a number may lie past the end
pub has-set_cases : (ws : List ℕ) (i n t : ℕ) → ((t / 64 ≡ i) × (i < length ws)) ⊎ (has (set ws i n) t ≡ has ws t)
has-set_cases ws i n t =
    dite (ℕ_discrete (t / 64) i) (λ e. dite (dec_le (length ws) i) (λ past. inr (ap (λ l. has l t) (set_past ws i n past))) (λ before. inl (e, lt_of_not-le before))) (λ e. inr (has-set_other ws i n t e))

pub has-none_of : (n t : ℕ) → has (none_of n) t ≡ 0
unfolding has
has-none_of n t =
    ap (λ m. bit_at m (t % 64)) (dite (dec_le n (t / 64)) (λ past. get_or_past (none_of n) (t / 64) 0 (let l : length (none_of n) ≡ n = simp length-replicate in omega arith)) (λ before. get_or-replicate n (t / 64) 0 0 (lt_of_not-le before)))
    ∙ bit_at-zero (t % 64)

small : (t : ℕ) → t % 64 < 64
small t = mod-lt t (omega arith)

pub gain_here : (ws : List ℕ) (t : ℕ) → t / 64 < length ws → has (gain ws t) t ≡ 1
gain_here ws t h = has-set_same ws (t / 64) _ t refl h ∙ bit_at_set_same w64 (get_or ws (t / 64) 0) (t % 64) (small t)

pub gain_there : (ws : List ℕ) (t u : ℕ) → u ≢ t → has (gain ws t) u ≡ has ws u
gain_there ws t u ne =
    ⊎_elim
    (λ e. has-set_same ws (t / 64) _ u e.0 e.1 ∙ bit_at_set_other w64 (get_or ws (t / 64) 0) (t % 64) (small t) (u % 64) (bits_differ t u ne e.0) ∙ sym (has_word ws u (t / 64) _ e.0 refl))
    (λ same. same)
    (has-set_cases ws (t / 64) (bit_or (get_or ws (t / 64) 0) (one_bit (t % 64))) u)

-- a word of which this bit was cleared
pub cleared_here : (ws : List ℕ) (t found : ℕ) → has (set ws (t / 64) (bit_and found (bit_not w64 (one_bit (t % 64))))) t ≡ 0
cleared_here ws t found =
    let x : ℕ = bit_and found (bit_not w64 (one_bit (t % 64))) in
    dite (dec_le (length ws) (t / 64))
    (λ past. has-past (set ws (t / 64) x) t (let l = length-set ws (t / 64) x in omega arith))
    (λ before. has-set_same ws (t / 64) x t refl (lt_of_not-le before) ∙ bit_at_clear_same w64 found (t % 64) (small t))

pub lose_here : (ws : List ℕ) (t : ℕ) → has (lose ws t) t ≡ 0
lose_here ws t = cleared_here ws t (get_or ws (t / 64) 0)

pub lose_there : (ws : List ℕ) (t u : ℕ) → u ≢ t → has (lose ws t) u ≡ has ws u
lose_there ws t u ne =
    ⊎_elim
    (λ e. has-set_same ws (t / 64) _ u e.0 e.1 ∙ bit_at_clear_other w64 (get_or ws (t / 64) 0) (t % 64) (small t) (u % 64) (small u) (bits_differ t u ne e.0) ∙ sym (has_word ws u (t / 64) _ e.0 refl))
    (λ same. same)
    (has-set_cases ws (t / 64) (bit_and (get_or ws (t / 64) 0) (bit_not w64 (one_bit (t % 64)))) u)

-- a word that takes more bits
pub with_bits_here : (ws : List ℕ) (i mask t : ℕ) → t / 64 ≡ i → i < length ws → has (with_bits ws i mask) t ≡ max (has ws t) (bit_at mask (t % 64))
with_bits_here ws i mask t e h =
    has-set_same ws i _ t e h ∙ bit_at_or (get_or ws i 0) mask (t % 64) ∙ ap (λ b. max b (bit_at mask (t % 64))) (sym (has_word ws t i _ e refl))

-- a word that is read
pub read_word_cases : (ws other : List ℕ) (i t : ℕ) → (has (read_word ws other i) t ≡ has other t) ⊎ (has (read_word ws other i) t ≡ has ws t)
read_word_cases ws other i t =
    ⊎_elim (λ e. inl (has-set_same ws i _ t e.0 e.1 ∙ sym (has_word other t i _ e.0 refl))) inr (has-set_cases ws i (get_or other i 0) t)

pub read_word_here : (ws other : List ℕ) (i t : ℕ) → t / 64 ≡ i → i < length ws → has (read_word ws other i) t ≡ has other t
read_word_here ws other i t e h = has-set_same ws i _ t e h ∙ sym (has_word other t i _ e refl)

-- words of the meet and of the union
zipped : (f : ℕ → ℕ → ℕ) (a b : List ℕ) (i : ℕ) → f 0 0 ≡ 0 → length a ≡ length b → get_or (map (λ x. f x.0 x.1) (zip a b)) i 0 ≡ f (get_or a i 0) (get_or b i 0)
zipped f [] [] i z e = sym z
zipped f [] (y ∷ ys) i z e = absurd (omega arith)
zipped f (x ∷ xs) [] i z e = absurd (omega arith)
zipped f (x ∷ xs) (y ∷ ys) zero z e = refl
zipped f (x ∷ xs) (y ∷ ys) (suc i) z e = zipped f xs ys i z (omega arith)

pub word-meet : (a b : List ℕ) (i : ℕ) → length a ≡ length b → get_or (meet a b) i 0 ≡ bit_and (get_or a i 0) (get_or b i 0)
word-meet a b i e = zipped bit_and a b i refl e

pub word-union : (a b : List ℕ) (i : ℕ) → length a ≡ length b → get_or (union a b) i 0 ≡ bit_or (get_or a i 0) (get_or b i 0)
word-union a b i e = zipped bit_or a b i refl e

pub length-meet : (a b : List ℕ) → length a ≡ length b → length (meet a b) ≡ length a
length-meet a b e = simp (length-map, length-zip) (omega arith)

pub length-union : (a b : List ℕ) → length a ≡ length b → length (union a b) ≡ length a
length-union a b e = simp (length-map, length-zip) (omega arith)

pub is_meet : (a b l : List ℕ) (n : ℕ) → length a ≡ length b → length l ≡ length b → length b ≤ n → ((k : ℕ) → k < n → get_or l k 0 ≡ bit_and (get_or a k 0) (get_or b k 0)) → l ≡ meet a b
is_meet a b l n e f past at =
    ext_get_or 0 l (meet a b) (f ∙ sym (length-meet a b e ∙ e)) (λ k h. at k (omega arith) ∙ sym (word-meet a b k e))

pub is_union : (a b l : List ℕ) (n : ℕ) → length a ≡ length b → length l ≡ length b → length b ≤ n → ((k : ℕ) → k < n → get_or l k 0 ≡ bit_or (get_or a k 0) (get_or b k 0)) → l ≡ union a b
is_union a b l n e f past at =
    ext_get_or 0 l (union a b) (f ∙ sym (length-union a b e ∙ e)) (λ k h. at k (omega arith) ∙ sym (word-union a b k e))

pub has-meet : (a b : List ℕ) (t : ℕ) → length a ≡ length b → has (meet a b) t ≡ min (has a t) (has b t)
unfolding has
has-meet a b t e = ap (λ m. bit_at m (t % 64)) (word-meet a b (t / 64) e) ∙ bit_at_and _ _ (t % 64)

pub has-union : (a b : List ℕ) (t : ℕ) → length a ≡ length b → has (union a b) t ≡ max (has a t) (has b t)
unfolding has
has-union a b t e = ap (λ m. bit_at m (t % 64)) (word-union a b (t / 64) e) ∙ bit_at_or _ _ (t % 64)

pub length-all_below : (n : ℕ) → length (all_below n) ≡ words_for n
length-all_below n = length-map-range_with_len (first_bits n) 0 (words_for n)

word-all_below : (n i : ℕ) → i < words_for n → get_or (all_below n) i 0 ≡ first_bits n i
word-all_below n i h = get_or-map-range_with_len (first_bits n) 0 (words_for n) i i 0 h (omega arith)

pub has-all_below : (n t : ℕ) → t < n → has (all_below n) t ≡ 1
has-all_below n t h =
    has_word (all_below n) t (t / 64) (first_bits n (t / 64)) refl (word-all_below n (t / 64) (omega (arith, div-add-mod' t 64)))
    ∙ bit_at_ones (min 64 (n - 64 * (t / 64))) (t % 64) (let d = div-add-mod' t 64 in let l = small t in omega arith)

pub has-all_below_above : (n t : ℕ) → n ≤ t → has (all_below n) t ≡ 0
has-all_below_above n t h =
    dite (dec_le (words_for n) (t / 64))
    (λ past. has-past (all_below n) t (let l = length-all_below n in omega arith))
    (λ before. has_word (all_below n) t (t / 64) (first_bits n (t / 64)) refl (word-all_below n (t / 64) (lt_of_not-le before)) ∙ bit_at_ones_above (min 64 (n - 64 * (t / 64))) (t % 64) (let d = div-add-mod' t 64 in omega arith))

-- `n & (1 << j)` is 0 exactly where the bit is
masked : (n j b : ℕ) → j < 64 → bit_at n j ≡ b → bit_and n (one_bit j) ≡ b * 2 ^ j
masked n j b h e =
    let one : 1 * 2 ^ j % 2 ^ 64 ≡ 2 ^ j = omega (arith, mod-eq_of_lt (pow_below j 64 h)) in
    ap (λ m. bit_and n m) one ∙ and_pow n j ∙ ap (λ x. x * 2 ^ j) e

pub free_bit : (ws : List ℕ) (at mask c : ℕ) → at ≡ c / 64 → mask ≡ one_bit (c % 64) → eqb (bit_and (get_or ws at 0) mask) 0 ≡ eqb (has ws c) 0
free_bit ws at mask c e f =
    let bit : has ws c ≡ bit_at (get_or ws at 0) (c % 64) = has_word ws c at (get_or ws at 0) (sym e) refl in
    let same : (b : ℕ) → bit_at (get_or ws at 0) (c % 64) ≡ b → bit_and (get_or ws at 0) mask ≡ b * 2 ^ (c % 64) = λ b g. ap (λ m. bit_and (get_or ws at 0) m) f ∙ masked (get_or ws at 0) (c % 64) b (small c) g in
    ⊎_elim
    (λ none. ap (λ n. eqb n 0) (same 0 (sym bit ∙ none) ∙ zero-mul (2 ^ (c % 64))) ∙ ap (λ n. eqb n 0) (sym none))
    (λ one. ap (λ n. eqb n 0) (same 1 (sym bit ∙ one) ∙ one-mul (2 ^ (c % 64))) ∙ ne_eqb (2 ^ (c % 64)) 0 (let p = pow_pos (c % 64) in λ z. omega arith) ∙ ap (λ n. eqb n 0) (sym one))
    (has_cases ws c)

pub gain_is : (ws : List ℕ) (at mask c : ℕ) → at ≡ c / 64 → mask ≡ one_bit (c % 64) → with_bits ws at mask ≡ gain ws c
gain_is ws at mask c e f = ap (λ i. with_bits ws i mask) e ∙ ap (λ m. with_bits ws (c / 64) m) f

-- a bit of a word that was written
pub written_here : (ws : List ℕ) (i x j : ℕ) → i < length ws → j < 64 → has (set ws i x) (64 * i + j) ≡ bit_at x j
written_here ws i x j h small' =
    let word : (64 * i + j) / 64 ≡ i = omega arith in
    let bit : (64 * i + j) % 64 ≡ j = omega arith in
    has-set_same ws i x (64 * i + j) word h ∙ ap (λ b. bit_at x b) bit

-- A product, bit by bit from the sign down: each step doubles what is there and adds the other factor or not.
use Rattle.std.proofs.Common.{◌≡◌, ℕ, zero, suc, ◌+◌, ◌-◌, ◌*◌, ◌^◌, ◌<◌, ◌≤◌, Bool, true, false, not, List, [], ◌∷◌, ◌++◌, length, get_or, refl, sym, ap, subst, ◌∙◌, arith, ℤ, pos, negsuc, ◌+ℤ◌, ◌-ℤ◌, ◌*ℤ◌, neg_ℤ}
use Rattle.std.specs.Prelude.{if◌then◌else◌}
use Rattle.std.proofs.lemmas.Int.{ints}
use Rattle.std.proofs.lemmas.Bool.{lt-ltb, ltb-true}
use Rattle.std.proofs.Math.Nat.{pow-suc, mul-le-mul_left}
use Rattle.std.proofs.lemmas.Nat.{pow_pos}
use Rattle.gate_arith.specs.Numbers.{bit, number, sign, signed, is_within, differ}
use Rattle.gate_arith.proofs.Signed.{signed_push, within_true, within_high, within_low}

-- a lowest bit more doubles the number
cons_by : (b : Bool) (bs : List Bool) (s : Bool) → sign bs ≡ s → sign (b ∷ bs) ≡ s → signed (b ∷ bs) ≡ pos (bit b) +ℤ (signed bs +ℤ signed bs)
cons_by b bs true is is_too =
    ap (λ t. if t then pos (bit b + 2 * number bs) -ℤ pos (2 ^ suc (length bs)) else pos (bit b + 2 * number bs)) is_too
    ∙ (let whole : signed bs ≡ pos (number bs) -ℤ pos (2 ^ length bs) = ap (λ t. if t then pos (number bs) -ℤ pos (2 ^ length bs) else pos (number bs)) is in
    let power = pow-suc 2 (length bs) in omega (arith, ints))
cons_by b bs false is is_too =
    ap (λ t. if t then pos (bit b + 2 * number bs) -ℤ pos (2 ^ suc (length bs)) else pos (bit b + 2 * number bs)) is_too
    ∙ (let whole : signed bs ≡ pos (number bs) = ap (λ t. if t then pos (number bs) -ℤ pos (2 ^ length bs) else pos (number bs)) is in omega (arith, ints))

sign-cons : (b : Bool) (bs : List Bool) → 0 < length bs → sign (b ∷ bs) ≡ sign bs
sign-cons b [] some = absurd (omega arith)
sign-cons b (c ∷ bs) some =
    (let first : suc (suc (length bs)) - 1 ≡ suc (length bs) = omega arith in
    let second : suc (length bs) - 1 ≡ length bs = omega arith in
    ap (λ i. get_or (b ∷ c ∷ bs) i false) first ∙ ap (λ i. get_or (c ∷ bs) i false) (sym second))

pub signed-cons : (b : Bool) (bs : List Bool) → 0 < length bs → signed (b ∷ bs) ≡ pos (bit b) +ℤ (signed bs +ℤ signed bs)
signed-cons b bs some = cons_by b bs (sign bs) refl (sign-cons b bs some)

-- the sign once more does not change the number
extend_by : (bs : List Bool) (s : Bool) → sign bs ≡ s → pos (number bs) -ℤ pos (2 ^ length bs * bit s) ≡ signed bs
extend_by bs true is =
    (let whole : signed bs ≡ pos (number bs) -ℤ pos (2 ^ length bs) = ap (λ t. if t then pos (number bs) -ℤ pos (2 ^ length bs) else pos (number bs)) is in omega (arith, ints))
extend_by bs false is =
    (let whole : signed bs ≡ pos (number bs) = ap (λ t. if t then pos (number bs) -ℤ pos (2 ^ length bs) else pos (number bs)) is in omega (arith, ints))

pub signed-extended : (bs : List Bool) → signed (bs ++ sign bs ∷ []) ≡ signed bs
signed-extended bs = signed_push bs (sign bs) ∙ extend_by bs (sign bs) refl

-- a number whose two highest bits agree lies within one bit less, and the bits but the last show it
pub narrow_same : (p n : ℕ) (x : Bool) → (pos (n + p * bit x) -ℤ pos (p * 2 * bit x)) ≡ pos n -ℤ pos (p * bit x)
narrow_same p n true = omega (arith, ints)
narrow_same p n false = omega (arith, ints)

pub narrow_within : (w p n : ℕ) (x y : Bool) → p ≡ 2 ^ (w - 1) → n < p → is_within w (pos (n + p * bit x) -ℤ pos (p * 2 * bit y)) ≡ not (differ x y)
narrow_within w p n true true is less = within_true w p (pos (n + p * 1) -ℤ pos (p * 2 * 1)) is (omega (arith, ints)) (omega (arith, ints))
narrow_within w p n true false is less = within_high w p (pos (n + p * 1) -ℤ pos (p * 2 * 0)) is (omega (arith, ints))
narrow_within w p n false true is less = within_low w p (pos (n + p * 0) -ℤ pos (p * 2 * 1)) is (omega (arith, ints))
narrow_within w p n false false is less = within_true w p (pos (n + p * 0) -ℤ pos (p * 2 * 0)) is (omega (arith, ints)) (omega (arith, ints))

wider : (n w : ℕ) → n < 2 ^ (w - 1) → n < 2 ^ (suc w - 1)
wider n zero h = h
wider n (suc w) h = (let same : suc w - 1 ≡ w = omega arith in let next : suc (suc w) - 1 ≡ suc w = omega arith in
    subst (λ k. n < 2 ^ k) (sym next) (let less : n < 2 ^ w = subst (λ k. n < 2 ^ k) same h in omega (arith, pow-suc 2 w)))

-- what lies within a width lies within one bit more
pub within_wider : (w : ℕ) (z : ℤ) → is_within w z ≡ true → is_within (suc w) z ≡ true
within_wider w (pos n) h = lt-ltb n (2 ^ (suc w - 1)) (wider n w (ltb-true n (2 ^ (w - 1)) h))
within_wider w (negsuc n) h = lt-ltb n (2 ^ (suc w - 1)) (wider n w (ltb-true n (2 ^ (w - 1)) h))

less_odd : (n : ℕ) → pos 1 +ℤ (negsuc n +ℤ negsuc n) ≡ negsuc (n + n)
less_odd n = omega (arith, ints)

less_even : (n : ℕ) → pos 0 +ℤ (negsuc n +ℤ negsuc n) ≡ negsuc (suc (n + n))
less_even n = omega (arith, ints)

pos_shorter : (w j k : ℕ) → j ≤ k → is_within w (pos k) ≡ true → is_within w (pos j) ≡ true
pos_shorter w j k less h = lt-ltb j (2 ^ (w - 1)) (let below = ltb-true k (2 ^ (w - 1)) h in omega arith)

neg_shorter : (w j k : ℕ) → j ≤ k → is_within w (neg_ℤ (pos k)) ≡ true → is_within w (neg_ℤ (pos j)) ≡ true
neg_shorter w zero k less h = lt-ltb 0 (2 ^ (w - 1)) (pow_pos (w - 1))
neg_shorter w (suc j) zero less h = absurd (omega arith)
neg_shorter w (suc j) (suc k) less h = lt-ltb j (2 ^ (w - 1)) (let below = ltb-true k (2 ^ (w - 1)) h in omega arith)

-- a product lies within the width where one with a longer factor of the same sign does
pub within_shorter : (w : ℕ) (a q : ℤ) (b : Bool) → is_within w (a *ℤ (pos (bit b) +ℤ (q +ℤ q))) ≡ true → is_within w (a *ℤ q) ≡ true
within_shorter w (pos m) (pos n) b h = pos_shorter w (m * n) (m * (bit b + (n + n))) (mul-le-mul_left m (omega arith)) h
within_shorter w (pos m) (negsuc n) true h = neg_shorter w (m * suc n) (m * suc (n + n)) (mul-le-mul_left m (omega arith)) (subst (λ z. is_within w (pos m *ℤ z) ≡ true) (less_odd n) h)
within_shorter w (pos m) (negsuc n) false h = neg_shorter w (m * suc n) (m * suc (suc (n + n))) (mul-le-mul_left m (omega arith)) (subst (λ z. is_within w (pos m *ℤ z) ≡ true) (less_even n) h)
within_shorter w (negsuc m) (pos n) b h = neg_shorter w (suc m * n) (suc m * (bit b + (n + n))) (mul-le-mul_left (suc m) (omega arith)) h
within_shorter w (negsuc m) (negsuc n) true h = pos_shorter w (suc m * suc n) (suc m * suc (n + n)) (mul-le-mul_left (suc m) (omega arith)) (subst (λ z. is_within w (negsuc m *ℤ z) ≡ true) (less_odd n) h)
within_shorter w (negsuc m) (negsuc n) false h = pos_shorter w (suc m * suc n) (suc m * suc (suc (n + n))) (mul-le-mul_left (suc m) (omega arith)) (subst (λ z. is_within w (negsuc m *ℤ z) ≡ true) (less_even n) h)

-- the factor times a number with a lowest bit more
pub double_times : (a q : ℤ) (b : Bool) → a *ℤ (pos (bit b) +ℤ (q +ℤ q)) ≡ (if b then a else pos 0) +ℤ (a *ℤ q +ℤ a *ℤ q)
double_times (pos m) (pos n) true = omega (arith, ints)
double_times (pos m) (pos n) false = omega (arith, ints)
double_times (pos m) (negsuc n) true = ap (λ z. pos m *ℤ z) (less_odd n) ∙ omega (arith, ints)
double_times (pos m) (negsuc n) false = ap (λ z. pos m *ℤ z) (less_even n) ∙ omega (arith, ints)
double_times (negsuc m) (pos n) true = omega (arith, ints)
double_times (negsuc m) (pos n) false = omega (arith, ints)
double_times (negsuc m) (negsuc n) true = ap (λ z. negsuc m *ℤ z) (less_odd n) ∙ omega (arith, ints)
double_times (negsuc m) (negsuc n) false = ap (λ z. negsuc m *ℤ z) (less_even n) ∙ omega (arith, ints)

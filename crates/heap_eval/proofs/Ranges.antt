-- Lists of consecutive numbers: their last one apart, and what tests of them give.
use Rattle.std.proofs.Common.{◌≡◌, ℕ, zero, suc, ◌+◌, ◌<◌, Bool, true, false, not, ◌&&◌, ◌||◌, cond, List, [], ◌∷◌, ◌++◌, refl, ◌∙◌, ap, add-one, arith}
use Rattle.std.specs.Prelude.{count_by, if◌then◌else◌}
use Rattle.std.specs.List.{list_any, list_all, range_with_len}
use Rattle.std.proofs.lemmas.List.Folds.{list_any-append, list_all-append}
use Rattle.std.proofs.lemmas.List.Sums.{sum_by-append, sum_by-cons}
use Rattle.heap_core.specs.declared.value.Seen.{Seen}
use Rattle.heap_core.specs.declared.value.Seen.TheVariants.{Is, Bad, Out}
use Rattle.heap_core.specs.Outcomes.{flag, is_out, is_bad, is_true}
use Rattle.heap_core.specs.Eval.{over}
use Rattle.heap_eval.specs.Joined.{joined}

pub last_apart : (a n b : ℕ) → a + n ≡ b → range_with_len a (suc n) ≡ range_with_len a n ++ b ∷ []
last_apart a zero b is = ap (λ (o : ℕ). o ∷ []) (omega arith)
last_apart a (suc n) b is = ap (λ (os : List ℕ). a ∷ os) (last_apart (a + 1) n b (omega arith))

-- one object more, where it is one of the class
more_within : (all : Bool) (s : Seen) (out bad every some : Bool) → (if out || (is_out s || false) then Out else (if bad || (is_bad s || false) then Bad else (if all then flag (every && (is_true s && true)) else flag (some || (is_true s || false))))) ≡ joined all (if out then Out else (if bad then Bad else (if all then flag every else flag some))) s
more_within all s true bad every some = refl
more_within all Out false true every some = refl
more_within all Out false false every some = grind arith
more_within all Bad false true every some = refl
more_within all Bad false false every some = grind arith
more_within all (Is v) false true every some = refl
more_within true (Is v) false false every some = grind arith
more_within false (Is v) false false every some = grind arith

-- one object more, of the class or not
one_more : (all within : Bool) (s : Seen) (out bad every some : Bool) → (if out || ((within && is_out s) || false) then Out else (if bad || ((within && is_bad s) || false) then Bad else (if all then flag (every && ((not within || is_true s) && true)) else flag (some || ((within && is_true s) || false))))) ≡ cond within (joined all (if out then Out else (if bad then Bad else (if all then flag every else flag some))) s) (if out then Out else (if bad then Bad else (if all then flag every else flag some)))
one_more all true s out bad every some = more_within all s out bad every some
one_more all false s true bad every some = refl
one_more all false s false true every some = refl
one_more true false s false false every some = grind arith
one_more false false s false false every some = grind arith

any_more : (p : ℕ → Bool) (n : ℕ) → list_any p (range_with_len 0 (n + 1)) ≡ (list_any p (range_with_len 0 n) || (p n || false))
any_more p n =
    let next : n + 1 ≡ suc n = omega arith in
    ap (λ m. list_any p (range_with_len 0 m)) next ∙ ap (list_any p) (last_apart 0 n n (omega arith)) ∙ list_any-append p (range_with_len 0 n) (n ∷ [])

all_more : (p : ℕ → Bool) (n : ℕ) → list_all p (range_with_len 0 (n + 1)) ≡ (list_all p (range_with_len 0 n) && (p n && true))
all_more p n =
    let next : n + 1 ≡ suc n = omega arith in
    ap (λ m. list_all p (range_with_len 0 m)) next ∙ ap (list_all p) (last_apart 0 n n (omega arith)) ∙ list_all-append p (range_with_len 0 n) (n ∷ [])

-- one object more of a quantifier
pub over_more : (all : Bool) (domain : ℕ → Bool) (instance : ℕ → Seen) (n : ℕ) → over all domain instance (n + 1) ≡ cond (domain n) (joined all (over all domain instance n) (instance n)) (over all domain instance n)
over_more all domain instance n =
    let ns = range_with_len 0 n in
    let out = λ (o : ℕ). domain o && is_out (instance o) in
    let bad = λ (o : ℕ). domain o && is_bad (instance o) in
    let every = λ (o : ℕ). not (domain o) || is_true (instance o) in
    let some = λ (o : ℕ). domain o && is_true (instance o) in
    rw (any_more out n, any_more bad n, all_more every n, any_more some n)
    (one_more all (domain n) (instance n) (list_any out ns) (list_any bad ns) (list_all every ns) (list_any some ns))

abbrev one : Bool → ℕ
one b = cond b 1 0

-- as many numbers pass a test as pass one that gives the same of them
pub count_same : (p q : ℕ → Bool) (a n : ℕ) → ((o : ℕ) → o < a + n → p o ≡ q o) → count_by p (range_with_len a n) ≡ count_by q (range_with_len a n)
count_same p q a zero same = refl
count_same p q a (suc n) same =
    let first : one (p a) ≡ one (q a) = ap one (same a (omega arith)) in
    let rest : count_by p (range_with_len (a + 1) n) ≡ count_by q (range_with_len (a + 1) n) = count_same p q (a + 1) n (λ o below. same o (omega arith)) in
    omega (arith, first, rest, sum_by-cons (λ o. cond (p o) 1 0) a (range_with_len (a + 1) n), sum_by-cons (λ o. cond (q o) 1 0) a (range_with_len (a + 1) n))

-- one number more is counted
count_more : (p : ℕ → Bool) (n : ℕ) → count_by p (range_with_len 0 (n + 1)) ≡ count_by p (range_with_len 0 n) + cond (p n) 1 0
count_more p n =
    rw (add-one, last_apart 0 n n (omega arith)) (omega (arith, sum_by-append (λ o. cond (p o) 1 0) (range_with_len 0 n) (n ∷ []), sum_by-cons (λ o. cond (p o) 1 0) n []))

-- so where it passes, and where it does not
pub counted : (p : ℕ → Bool) (n before after : ℕ) → before ≡ count_by p (range_with_len 0 n) → p n ≡ true → after ≡ before + 1 → after ≡ count_by p (range_with_len 0 (n + 1))
counted p n before after so_far is more =
    let is_one : one (p n) ≡ 1 = ap one is in
    omega (arith, so_far, more, is_one, count_more p n)

pub passed : (p : ℕ → Bool) (n before after : ℕ) → before ≡ count_by p (range_with_len 0 n) → p n ≡ false → after ≡ before → after ≡ count_by p (range_with_len 0 (n + 1))
passed p n before after so_far is same =
    let is_none : one (p n) ≡ 0 = ap one is in
    omega (arith, so_far, same, is_none, count_more p n)

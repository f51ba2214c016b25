-- Closure over a graph: what one round more holds, and after how many rounds nothing more comes.
use Rattle.std.proofs.Common.{◌≡◌, ◌⊎◌, ℕ, zero, suc, ◌+◌, ◌-◌, ◌<◌, ◌≤◌, Bool, true, false, ◌&&◌, ◌||◌, cond, eqb, List, [], ◌∷◌, length, refl, sym, ◌∙◌, subst, ap, inl, inr, arith}
use Rattle.std.specs.List.{list_any, range_with_len}
use Rattle.std.proofs.lemmas.Bool.{false≢true, false_from_ne_true, cases_Bool, cases_eq, or_cases, or_right, and_parts, and_from, eqb-true, eq-eqb}
use Rattle.std.proofs.lemmas.Bool.Decides.{same_from_decides}
use Rattle.std.proofs.lemmas.List.Folds.{list_any_at, Any-from_list_any}
use Rattle.std.proofs.lemmas.List.FromFn.{length-range_with_len, get_or-range_with_len}
use Rattle.heap_core.specs.Closure.{Graph, widened, rounds, closure, Within, ClosureIsLeastClosed, RoundsEnd, RoundsOfUnion, RoundsOfSum}

-- ## tests of numbers

-- a number below n passes
pub any_below : (test : ℕ → Bool) (n o : ℕ) → o < n → test o ≡ true → list_any test (range_with_len 0 n) ≡ true
any_below test n o within is =
    let inside : o < length (range_with_len 0 n) = omega (arith, length-range_with_len 0 n) in
    list_any_at test (range_with_len 0 n) o 0 inside (ap test (get_or-range_with_len 0 n o 0 within ∙ omega arith) ∙ is)

pub any_in : (test : ℕ → Bool) (n : ℕ) → list_any test (range_with_len 0 n) ≡ true → (o : ℕ) × (o < n) × (test o ≡ true)
any_in test n is =
    let found = Any-from_list_any test (range_with_len 0 n) is in
    let within : found.0 < n = omega (arith, found.2, length-range_with_len 0 n) in
    let same : found.0 ≡ found.1 = omega (arith, sym (get_or-range_with_len 0 n found.0 found.1 within) ∙ found.3) in
    (found.1, omega (arith, same, within), found.4)

-- tests that are alike at the numbers of a range
pub any_alike : (p q : ℕ → Bool) (a n : ℕ) → ((o : ℕ) → o < a + n → p o ≡ q o) → list_any p (range_with_len a n) ≡ list_any q (range_with_len a n)
any_alike p q a zero agree = refl
any_alike p q a (suc n) agree = rw (agree a (omega arith), any_alike p q (a + 1) n (λ o below. agree o (omega arith))) refl

-- ## how many numbers below n are in a set

abbrev one : Bool → ℕ
one b = cond b 1 0

abbrev tally : (ℕ → Bool) → ℕ → ℕ
tally p zero = 0
tally p (suc n) = tally p n + one (p n)

step : (a b : Bool) → (a ≡ true → b ≡ true) → one a ≤ one b
step true true h = omega arith
step true false h = absurd (false≢true (h refl))
step false b h = omega arith

at_most : (p q : ℕ → Bool) → Within p q → (n : ℕ) → tally p n ≤ tally q n
at_most p q within zero = omega arith
at_most p q within (suc n) = omega (arith, at_most p q within n, step (p n) (q n) (within n))

no_more : (p : ℕ → Bool) (n : ℕ) → tally p n ≤ n
no_more p zero = omega arith
no_more p (suc n) = omega (arith, no_more p n, step (p n) true (λ is. refl))

upto : (p q : ℕ → Bool) (n : ℕ) → ((o : ℕ) → o < n → q o ≡ true → p o ≡ true) → (q n ≡ true → p n ≡ true) → (o : ℕ) → o < suc n → q o ≡ true → p o ≡ true
upto p q n below here o within is =
    elim (cases_eq o n) [
      | inl same ↦ subst (λ r. p r ≡ true) (sym same) (here (subst (λ r. q r ≡ true) same is))
      | inr differs ↦ below o (omega arith) is
    ]

-- a set has all of a larger one below n, or it has fewer
grows : (p q : ℕ → Bool) → Within p q → (n : ℕ) → ((o : ℕ) → o < n → q o ≡ true → p o ≡ true) ⊎ (tally p n + 1 ≤ tally q n)
grows p q within zero = inl (λ o below is. absurd (omega arith))
grows p q within (suc n) =
    elim (grows p q within n) [
      | inr less ↦ inr (omega (arith, less, step (p n) (q n) (within n)))
      | inl same ↦ elim (cases_Bool (p n)) [
        | inl here ↦ inl (upto p q n same (λ is. here))
        | inr not_here ↦ elim (cases_Bool (q n)) [
          | inl there ↦ inr (let counted : one (q n) ≡ 1 = rw there refl in let not_counted : one (p n) ≡ 0 = rw not_here refl in omega (arith, at_most p q within n, counted, not_counted))
          | inr absent ↦ inl (upto p q n same (λ is. absurd (false≢true (sym absent ∙ is))))
        ]
      ]
    ]

-- ## one round

pub kept : (edge : Graph) (bound : ℕ) (set : ℕ → Bool) → Within set (widened edge bound set)
kept edge bound set o is = rw is refl

-- what an edge leads to from a number that is held
pub more : (edge : Graph) (bound : ℕ) (set : ℕ → Bool) (p o : ℕ) → p < bound → set p ≡ true → edge p o ≡ true → widened edge bound set o ≡ true
more edge bound set p o within is to =
    or_right (set o) (list_any (λ q. set q && edge q o) (range_with_len 0 bound)) (any_below (λ q. set q && edge q o) bound p within (and_from (set p) (edge p o) is to))

-- and no other number
pub from : (edge : Graph) (bound : ℕ) (set : ℕ → Bool) (o : ℕ) → widened edge bound set o ≡ true → (set o ≡ true) ⊎ ((p : ℕ) × (p < bound) × (set p ≡ true) × (edge p o ≡ true))
from edge bound set o is =
    elim (or_cases (set o) (list_any (λ q. set q && edge q o) (range_with_len 0 bound)) is) [
      | inl here ↦ inl here
      | inr some ↦
          let found = any_in (λ q. set q && edge q o) bound some in
          let both = and_parts (set found.0) (edge found.0 o) found.2 in
          inr (found.0, found.1, both.0, both.1)
    ]

-- ## rounds

pub rounds_kept : (n : ℕ) (edge : Graph) (bound : ℕ) (set : ℕ → Bool) → Within set (rounds n edge bound set)
rounds_kept zero edge bound set o is = is
rounds_kept (suc n) edge bound set o is = kept edge bound (rounds n edge bound set) o (rounds_kept n edge bound set o is)

-- what is so of the set's numbers, and of what an edge leads to from a number of which it is so, is so of all that rounds hold
pub rounds_each : (P : ℕ → Type 0) (n : ℕ) (edge : Graph) (bound : ℕ) (set : ℕ → Bool)
    → ((o : ℕ) → set o ≡ true → P o) → ((p o : ℕ) → p < bound → P p → edge p o ≡ true → P o) → (o : ℕ) → rounds n edge bound set o ≡ true → P o
rounds_each P zero edge bound set begins goes o is = begins o is
rounds_each P (suc n) edge bound set begins goes o is =
    elim (from edge bound (rounds n edge bound set) o is) [
      | inl before ↦ rounds_each P n edge bound set begins goes o before
      | inr last ↦ goes last.0 o last.1 (rounds_each P n edge bound set begins goes last.0 last.2) last.3
    ]

-- no edge leaves the set that begins below the bound
abbrev pub IsFull : Graph → ℕ → (ℕ → Bool) → Type 0
IsFull edge bound set = (p o : ℕ) → p < bound → set p ≡ true → edge p o ≡ true → set o ≡ true

still : (edge : Graph) (bound : ℕ) (set : ℕ → Bool) → IsFull edge bound set → IsFull edge bound (widened edge bound set)
still edge bound set full p o within is to =
    elim (from edge bound set p is) [
      | inl before ↦ kept edge bound set o (full p o within before to)
      | inr last ↦ kept edge bound set o (full p o within (full last.0 p last.1 last.2 last.3) to)
    ]

-- after n rounds the set is full, or it has more than n numbers below the bound
progress : (n : ℕ) (edge : Graph) (bound : ℕ) (set : ℕ → Bool) → IsFull edge bound (rounds n edge bound set) ⊎ (n + 1 ≤ tally (rounds n edge bound set) bound)
progress zero edge bound set =
    elim (grows (λ o. false) set (λ o is. absurd (false≢true is)) bound) [
      | inl none ↦ inl (λ p o within is to. absurd (false≢true (none p within is)))
      | inr some ↦ inr (omega (arith, some))
    ]
progress (suc n) edge bound set =
    elim (progress n edge bound set) [
      | inl full ↦ inl (still edge bound (rounds n edge bound set) full)
      | inr held ↦ elim (grows (rounds n edge bound set) (rounds (suc n) edge bound set) (kept edge bound (rounds n edge bound set)) bound) [
        | inl same ↦ inl (λ p o within is to. more edge bound (rounds n edge bound set) p o within (same p within is) to)
        | inr less ↦ inr (omega (arith, held, less))
      ]
    ]

pub closure_full : (edge : Graph) (bound : ℕ) (set : ℕ → Bool) → IsFull edge bound (closure edge bound set)
closure_full edge bound set =
    elim (progress bound edge bound set) [ inl full ↦ full | inr many ↦ absurd (omega (arith, many, no_more (closure edge bound set) bound)) ]

-- no round widens a full set
pub rounds_full : (n : ℕ) (edge : Graph) (bound : ℕ) (set : ℕ → Bool) → IsFull edge bound set → (o : ℕ) → rounds n edge bound set o ≡ set o
rounds_full n edge bound set full o =
    same_from_decides (rounds n edge bound set o) (set o)
    (rounds_each (λ q. set q ≡ true) n edge bound set (λ q is. is) full o, rounds_kept n edge bound set o) (λ is. is, λ is. is)

-- ## the laws

pub closure_is_least_closed : ClosureIsLeastClosed
closure_is_least_closed edge bound set begins = record {
  holds = rounds_kept bound edge bound set;
  closed = λ p o is to. closure_full edge bound set p o (begins p o to) is to;
  least = λ other holds closed. rounds_each (λ q. other q ≡ true) bound edge bound set holds (λ p o within. closed p o);
}

-- m + n rounds are m rounds after n, as sets
pub rounds-sum : (m n : ℕ) (edge : Graph) (bound : ℕ) (set : ℕ → Bool) → rounds (m + n) edge bound set ≡ rounds m edge bound (rounds n edge bound set)
rounds-sum zero n edge bound set = let same : 0 + n ≡ n = omega arith in ap (λ k. rounds k edge bound set) same
rounds-sum (suc m) n edge bound set =
    let next : suc m + n ≡ suc (m + n) = omega arith in
    ap (λ k. rounds k edge bound set) next ∙ ap (widened edge bound) (rounds-sum m n edge bound set)

pub rounds_of_sum : RoundsOfSum
rounds_of_sum edge bound set m n o = ap (λ (s : ℕ → Bool). s o) (rounds-sum m n edge bound set)

pub rounds_end : RoundsEnd
rounds_end edge bound set m o enough =
    let parts : m ≡ m - bound + bound = omega arith in
    ap (λ k. rounds k edge bound set o) parts ∙ rounds_of_sum edge bound set (m - bound) bound o
    ∙ rounds_full (m - bound) edge bound (closure edge bound set) (closure_full edge bound set) o

-- ## sets and graphs that agree

widened_agree : (edge other : Graph) (bound : ℕ) (a b : ℕ → Bool) (o : ℕ) → ((p : ℕ) → p < bound → edge p o ≡ other p o) → ((p : ℕ) → p < bound → a p ≡ b p) → a o ≡ b o → widened edge bound a o ≡ widened other bound b o
widened_agree edge other bound a b o edges sets here =
    rw (here, any_alike (λ p. a p && edge p o) (λ p. b p && other p o) 0 bound (λ p within. rw (edges p (omega arith), sets p (omega arith)) refl)) refl

-- graphs whose edges from below the bound agree, and sets that agree
pub rounds_agree : (n : ℕ) (edge other : Graph) (bound : ℕ) (a b : ℕ → Bool) → ((p o : ℕ) → p < bound → edge p o ≡ other p o) → ((o : ℕ) → a o ≡ b o) → (o : ℕ) → rounds n edge bound a o ≡ rounds n other bound b o
rounds_agree zero edge other bound a b edges sets o = sets o
rounds_agree (suc n) edge other bound a b edges sets o =
    let before = rounds_agree n edge other bound a b edges sets in
    widened_agree edge other bound (rounds n edge bound a) (rounds n other bound b) o (λ p. edges p o) (λ p within. before p) (before o)

-- graphs and sets that agree below the bound
pub rounds_agree_below : (n : ℕ) (edge other : Graph) (bound : ℕ) (a b : ℕ → Bool)
    → ((p o : ℕ) → p < bound → o < bound → edge p o ≡ other p o) → ((o : ℕ) → o < bound → a o ≡ b o) → (o : ℕ) → o < bound → rounds n edge bound a o ≡ rounds n other bound b o
rounds_agree_below zero edge other bound a b edges sets o inside = sets o inside
rounds_agree_below (suc n) edge other bound a b edges sets o inside =
    let before = rounds_agree_below n edge other bound a b edges sets in
    widened_agree edge other bound (rounds n edge bound a) (rounds n other bound b) o (λ p within. edges p o within inside) before (before o inside)

-- ## unions

shared : (x y e : Bool) → ((x || y) && e) ≡ ((x && e) || (y && e))
shared true y true = refl
shared true true false = refl
shared true false false = refl
shared false y e = refl

regrouped : (x y s t : Bool) → ((x || y) || (s || t)) ≡ ((x || s) || (y || t))
regrouped true y s t = refl
regrouped false true true t = refl
regrouped false true false t = refl
regrouped false false true t = refl
regrouped false false false t = refl

any_of_union : (p q : ℕ → Bool) (xs : List ℕ) → list_any (λ x. p x || q x) xs ≡ (list_any p xs || list_any q xs)
any_of_union p q [] = refl
any_of_union p q (x ∷ xs) = rw (any_of_union p q xs) (regrouped (p x) (q x) (list_any p xs) (list_any q xs))

widened_union : (edge : Graph) (bound : ℕ) (a b : ℕ → Bool) (o : ℕ) → widened edge bound (λ q. a q || b q) o ≡ (widened edge bound a o || widened edge bound b o)
widened_union edge bound a b o =
    let split = any_alike (λ p. (a p || b p) && edge p o) (λ p. (a p && edge p o) || (b p && edge p o)) 0 bound (λ p within. shared (a p) (b p) (edge p o)) in
    rw (split, any_of_union (λ p. a p && edge p o) (λ p. b p && edge p o) (range_with_len 0 bound))
    (regrouped (a o) (b o) (list_any (λ p. a p && edge p o) (range_with_len 0 bound)) (list_any (λ p. b p && edge p o) (range_with_len 0 bound)))

pub rounds_of_union : RoundsOfUnion
rounds_of_union edge bound a b zero o = refl
rounds_of_union edge bound a b (suc n) o =
    widened_agree edge edge bound (rounds n edge bound (λ q. a q || b q)) (λ q. rounds n edge bound a q || rounds n edge bound b q) o
    (λ p within. refl) (λ p within. rounds_of_union edge bound a b n p) (rounds_of_union edge bound a b n o)
    ∙ widened_union edge bound (rounds n edge bound a) (rounds n edge bound b) o

-- ## the rounds of the numbers of a set, each for itself

rounds_of_none : (n : ℕ) (edge : Graph) (bound o : ℕ) → rounds n edge bound (λ q. false) o ≡ false
rounds_of_none n edge bound o =
    false_from_ne_true (rounds n edge bound (λ q. false) o) (rounds_each (λ q. ⊥) n edge bound (λ q. false) (λ q is. false≢true is) (λ p q within none to. none) o)

rounds_of_one : (n : ℕ) (edge : Graph) (bound q o : ℕ) (b : Bool) → rounds n edge bound (λ r. b && eqb r q) o ≡ (b && rounds n edge bound (λ r. eqb r q) o)
rounds_of_one n edge bound q o true = refl
rounds_of_one n edge bound q o false = rounds_of_none n edge bound o

rounds_of_listed : (n : ℕ) (edge : Graph) (bound : ℕ) (set : ℕ → Bool) (qs : List ℕ) (o : ℕ)
    → rounds n edge bound (λ r. list_any (λ q. set q && eqb r q) qs) o ≡ list_any (λ q. set q && rounds n edge bound (λ r. eqb r q) o) qs
rounds_of_listed n edge bound set [] o = rounds_of_none n edge bound o
rounds_of_listed n edge bound set (q ∷ qs) o =
    rounds_of_union edge bound (λ r. set q && eqb r q) (λ r. list_any (λ p. set p && eqb r p) qs) n o ∙ rw (rounds_of_one n edge bound q o (set q), rounds_of_listed n edge bound set qs o) refl

listed : (set : ℕ → Bool) (bound o : ℕ) → o < bound → set o ≡ list_any (λ q. set q && eqb o q) (range_with_len 0 bound)
listed set bound o within = same_from_decides (set o) (list_any (λ q. set q && eqb o q) (range_with_len 0 bound)) (λ is. is, λ is. is) (there, back)
  where
    there : list_any (λ q. set q && eqb o q) (range_with_len 0 bound) ≡ true → set o ≡ true
    there is =
        let found = any_in (λ q. set q && eqb o q) bound is in
        let both = and_parts (set found.0) (eqb o found.0) found.2 in
        ap set (eqb-true o found.0 both.1) ∙ both.0

    back : set o ≡ true → list_any (λ q. set q && eqb o q) (range_with_len 0 bound) ≡ true
    back is = any_below (λ q. set q && eqb o q) bound o within (and_from (set o) (eqb o o) is (eq-eqb o o refl))

pub rounds_of_members : (n : ℕ) (edge : Graph) (bound : ℕ) (set : ℕ → Bool) (o : ℕ) → o < bound → rounds n edge bound set o ≡ list_any (λ q. set q && rounds n edge bound (λ r. eqb r q) o) (range_with_len 0 bound)
rounds_of_members n edge bound set o within =
    rounds_agree_below n edge edge bound set (λ r. list_any (λ q. set q && eqb r q) (range_with_len 0 bound)) (λ p q before after. refl) (listed set bound) o within
    ∙ rounds_of_listed n edge bound set (range_with_len 0 bound) o

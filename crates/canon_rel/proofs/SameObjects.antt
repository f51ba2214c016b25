-- Two lists with the same objects in the same order, and in the second more items without any: an object is in both or in
-- neither, and first places compare alike.
use Rattle.std.proofs.Common.{◌≡◌, ℕ, ◌+◌, Bool, true, false, not, ◌&&◌, ◌||◌, cond, List, [], ◌∷◌, ◌++◌, refl, sym, ap, ◌∙◌, arith}
use Rattle.std.specs.Prelude.{nat_lt}
use Rattle.std.specs.List.{list_any, position_or_len}

pub data Same {A B : Type 0} (has : ℕ → A → Bool) (gives : ℕ → B → Bool) : List A → List B → Type 0 where
  none : Same has gives [] []
  both : (x : A) (y : B) (xs : List A) (ys : List B) → ((o : ℕ) → has o x ≡ gives o y) → Same has gives xs ys → Same has gives (x ∷ xs) (y ∷ ys)
  skip : (y : B) (xs : List A) (ys : List B) → ((o : ℕ) → gives o y ≡ false) → Same has gives xs ys → Same has gives xs (y ∷ ys)

-- whether the first a comes before the first b, by the first item
pub first_step : (a b : Bool) (i j : ℕ) → nat_lt (cond (not a) (1 + i) 0) (cond (not b) (1 + j) 0) ≡ (not b && (a || nat_lt i j))
first_step true true i j = refl
first_step true false i j = grind arith
first_step false true i j = grind arith
first_step false false i j = grind arith

module _ {A B : Type 0} (has : ℕ → A → Bool) (gives : ℕ → B → Bool) where
  pub some_same : (xs : List A) (ys : List B) → Same has gives xs ys → (o : ℕ) → list_any (has o) xs ≡ list_any (gives o) ys
  some_same _ _ none o = refl
  some_same _ _ (both x y xs ys same rest) o = rw (same o, some_same xs ys rest o) refl
  some_same _ _ (skip y xs ys lacks rest) o = rw (lacks o) (some_same xs ys rest o)

  abbrev before : {C : Type 0} → (ℕ → C → Bool) → List C → ℕ → ℕ → Bool
  before test zs a b = nat_lt (position_or_len (test a) zs) (position_or_len (test b) zs)

  pub before_same : (xs : List A) (ys : List B) → Same has gives xs ys → (a b : ℕ)
      → nat_lt (position_or_len (has a) xs) (position_or_len (has b) xs) ≡ nat_lt (position_or_len (gives a) ys) (position_or_len (gives b) ys)
  before_same _ _ none a b = refl
  before_same _ _ (both x y xs ys same rest) a b =
      first_step (has a x) (has b x) (position_or_len (has a) xs) (position_or_len (has b) xs)
      ∙ ap (λ c. not (has b x) && (has a x || c)) (before_same xs ys rest a b)
      ∙ ap (λ c. not (has b x) && (c || nat_lt (position_or_len (gives a) ys) (position_or_len (gives b) ys))) (same a)
      ∙ ap (λ c. not c && (gives a y || nat_lt (position_or_len (gives a) ys) (position_or_len (gives b) ys))) (same b)
      ∙ sym (first_step (gives a y) (gives b y) (position_or_len (gives a) ys) (position_or_len (gives b) ys))
  before_same _ _ (skip y xs ys lacks rest) a b =
      before_same xs ys rest a b
      ∙ sym (first_step (gives a y) (gives b y) (position_or_len (gives a) ys) (position_or_len (gives b) ys)
      ∙ ap (λ c. not c && (gives a y || nat_lt (position_or_len (gives a) ys) (position_or_len (gives b) ys))) (lacks b)
      ∙ ap (λ c. c || nat_lt (position_or_len (gives a) ys) (position_or_len (gives b) ys)) (lacks a))

  pub appended : (xs vs : List A) (ys ws : List B) → Same has gives xs ys → Same has gives vs ws → Same has gives (xs ++ vs) (ys ++ ws)
  appended _ vs _ ws none rest = rest
  appended _ vs _ ws (both x y xs ys same here) rest = both x y (xs ++ vs) (ys ++ ws) same (appended xs vs ys ws here rest)
  appended _ vs _ ws (skip y xs ys lacks here) rest = skip y (xs ++ vs) (ys ++ ws) lacks (appended xs vs ys ws here rest)

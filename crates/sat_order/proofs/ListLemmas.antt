use Rattle.std.proofs.Common.{◌≡◌, ◌≢◌, ℕ, ◌+◌, Bool, true, false, eqb, List, [], ◌∷◌, ◌++◌, length, refl, sym, ap, ◌∙◌, inl, inr, ◌⊎◌, arith}
use Rattle.sat_order.specs.Lists.{holds, EachOnce, first_of, after, before, from, without}

-- a test is one or the other
pub tested : (b : Bool) → (b ≡ true) ⊎ (b ≡ false)
tested true = inl refl
tested false = inr refl

pub holds-without : (xs : List ℕ) (v x : ℕ) → holds (without v xs) x ≡ true → holds xs x ≡ true
holds-without [] v x h = h
holds-without (y ∷ ys) v x h = grind (arith, holds-without ys v x)

pub absent-without : (xs : List ℕ) (v x : ℕ) → holds xs x ≡ false → holds (without v xs) x ≡ false
absent-without [] v x h = h
absent-without (y ∷ ys) v x h = grind (arith, absent-without ys v x)

pub gone-without : (xs : List ℕ) (v : ℕ) → holds (without v xs) v ≡ false
gone-without [] v = refl
gone-without (y ∷ ys) v = grind (arith, gone-without ys v)

pub kept-without : (xs : List ℕ) (v x : ℕ) → x ≢ v → holds (without v xs) x ≡ holds xs x
kept-without [] v x n = refl
kept-without (y ∷ ys) v x n = grind (arith, kept-without ys v x n)

pub once-without : (xs : List ℕ) (v : ℕ) → EachOnce xs → EachOnce (without v xs)
once-without [] v h = h
once-without (y ∷ ys) v h = grind (arith, once-without ys v h.1, absent-without ys v y h.0)

pub without_absent : (xs : List ℕ) (v : ℕ) → holds xs v ≡ false → without v xs ≡ xs
without_absent [] v h = refl
without_absent (y ∷ ys) v h = grind (arith, without_absent ys v)

pub length-without : (xs : List ℕ) (v : ℕ) → EachOnce xs → holds xs v ≡ true → length (without v xs) + 1 ≡ length xs
length-without [] v o h = grind arith
length-without (y ∷ ys) v o h = grind (arith, length-without ys v o.1, without_absent ys v, o.0)

pub before_absent : (x : ℕ) (xs : List ℕ) → holds xs x ≡ false → before x xs ≡ xs
before_absent x [] h = refl
before_absent x (y ∷ ys) h = grind (arith, before_absent x ys)

pub from_absent : (x : ℕ) (xs : List ℕ) → holds xs x ≡ false → from x xs ≡ []
from_absent x [] h = refl
from_absent x (y ∷ ys) h = grind (arith, from_absent x ys)

pub from_first : (xs : List ℕ) → from (first_of xs) xs ≡ xs
from_first [] = refl
from_first (y ∷ ys) = grind arith

pub holds_first : (xs : List ℕ) → holds (0 ∷ xs) (first_of xs) ≡ true
holds_first [] = refl
holds_first (y ∷ ys) = grind arith

-- the element behind one is an element, or 0
pub holds_after : (x : ℕ) (xs : List ℕ) → holds (0 ∷ xs) (after x xs) ≡ true
holds_after x [] = refl
holds_after x (y ∷ ys) = grind (arith, holds_after x ys, holds_first ys)

-- the first element of the rest is another
apart_first : (y : ℕ) (ys : List ℕ) → 0 ≢ y → holds ys y ≡ false → eqb y (first_of ys) ≡ false
apart_first y [] n h = grind arith
apart_first y (z ∷ zs) n h = grind arith

apart_after : (y x : ℕ) (ys : List ℕ) → 0 ≢ y → holds ys y ≡ false → eqb y (after x ys) ≡ false
apart_after y x ys n h = grind (arith, holds_after x ys)

not_zero : (y : ℕ) (ys : List ℕ) → EachOnce (0 ∷ y ∷ ys) → 0 ≢ y
not_zero y ys o q = grind (arith, o.0, q)

once_tail : (y : ℕ) (ys : List ℕ) → EachOnce (0 ∷ y ∷ ys) → EachOnce (0 ∷ ys)
once_tail y ys o = (grind (arith, o.0), o.1.1)

-- what goes on from an element goes on from the one behind it
pub from_after : (x : ℕ) (xs : List ℕ) → EachOnce (0 ∷ xs) → holds xs x ≡ true → from x xs ≡ x ∷ from (after x xs) xs
from_after x [] o h = absurd (grind arith)
from_after x (y ∷ ys) o h = elim (tested (eqb y x)) [
  | inl here ↦ grind (arith, here, apart_first y ys (not_zero y ys o) o.1.0, from_first ys)
  | inr other ↦ grind (arith, other, h, from_after x ys (once_tail y ys o), apart_after y x ys (not_zero y ys o) o.1.0)
]

pub before_first : (xs : List ℕ) → before (first_of xs) xs ≡ []
before_first [] = refl
before_first (y ∷ ys) = grind arith

pub before_after : (x : ℕ) (xs : List ℕ) → EachOnce (0 ∷ xs) → holds xs x ≡ true → before (after x xs) xs ≡ before x xs ++ x ∷ []
before_after x [] o h = absurd (grind arith)
before_after x (y ∷ ys) o h = elim (tested (eqb y x)) [
  | inl here ↦ grind (arith, here, apart_first y ys (not_zero y ys o) o.1.0, before_first ys)
  | inr other ↦ grind (arith, other, h, before_after x ys (once_tail y ys o), apart_after y x ys (not_zero y ys o) o.1.0)
]

-- an element that leaves, seen from another
pub before-without : (c v : ℕ) (xs : List ℕ) → eqb c v ≡ false → before c (without v xs) ≡ without v (before c xs)
before-without c v [] n = refl
before-without c v (y ∷ ys) n = elim (tested (eqb y c)) [
  | inl here ↦ grind (arith, here, n)
  | inr other ↦ elim (tested (eqb y v)) [
    | inl gone ↦ grind (arith, gone, other, before-without c v ys n)
    | inr stays ↦ grind (arith, stays, other, before-without c v ys n)
  ]
]

pub absent_before : (x : ℕ) (xs : List ℕ) → holds (before x xs) x ≡ false
absent_before x [] = refl
absent_before x (y ∷ ys) = grind (arith, absent_before x ys)

-- an element that leaves, seen from the one behind it
pub before_after-without : (v : ℕ) (xs : List ℕ) → EachOnce (0 ∷ xs) → holds xs v ≡ true → before (after v xs) (without v xs) ≡ without v (before v xs)
before_after-without v [] o h = absurd (grind arith)
before_after-without v (y ∷ ys) o h = elim (tested (eqb y v)) [
  | inl here ↦
      let same : y ≡ v = grind (arith, here) in
      let gone : holds ys v ≡ false = ap (holds ys) (sym same) ∙ o.1.0 in
      rw here (rw (without_absent ys v gone) (before_first ys))
  | inr other ↦ grind (arith, other, h, before_after-without v ys (once_tail y ys o), apart_after y v ys (not_zero y ys o) o.1.0)
]

-- the one behind an element is another
pub apart_behind : (v : ℕ) (xs : List ℕ) → EachOnce (0 ∷ xs) → holds xs v ≡ true → eqb v (after v xs) ≡ false
apart_behind v [] o h = absurd (grind arith)
apart_behind v (y ∷ ys) o h = elim (tested (eqb y v)) [
  | inl here ↦ grind (arith, here, apart_first y ys (not_zero y ys o) o.1.0)
  | inr other ↦ grind (arith, other, h, apart_behind v ys (once_tail y ys o))
]

pub holds-push : (xs : List ℕ) (x z : ℕ) → holds (xs ++ x ∷ []) z ≡ true → (holds xs z ≡ true) ⊎ (z ≡ x)
holds-push [] x z h = grind arith
holds-push (y ∷ ys) x z h = grind (arith, holds-push ys x z)

-- what stands before an element that stands before c stands before c
pub before_before : (xs : List ℕ) (c v x : ℕ) → holds (before c xs) v ≡ true → holds (before v xs) x ≡ true → holds (before c xs) x ≡ true
before_before [] c v x h i = h
before_before (y ∷ ys) c v x h i = grind (arith, before_before ys c v x)

-- one is an element and the other is not
pub apart_by : (xs : List ℕ) (v w : ℕ) → holds xs v ≡ true → holds xs w ≡ false → eqb v w ≡ false
apart_by xs v w h i = elim (tested (eqb v w)) [
  | inl same ↦ absurd (let e : v ≡ w = grind (arith, same) in let both : true ≡ false = sym h ∙ ap (holds xs) e ∙ i in cc)
  | inr other ↦ other
]

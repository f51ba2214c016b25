-- Literals, their negations, and lists of true literals.
use Rattle.std.proofs.Common.{◌≡◌, ◌≢◌, ℕ, ◌+◌, ◌-◌, ◌/◌, ◌%◌, ◌<◌, ◌≤◌, Bool, true, false, eqb, ◌||◌, List, [], ◌∷◌, ◌++◌, length, map, get_or, set, refl, sym, ap, ◌∙◌, subst, inl, inr, ◌⊎◌, All, arith, get_or-set_same, get_or-set_other}
use Rattle.std.proofs.lemmas.List.{length-map}
use Rattle.std.specs.List.{list_any, AllByRecursion, IsDistinct}
use Rattle.std.proofs.lemmas.List.Elements.{recursion_from_All}
use Rattle.std.proofs.lemmas.Map.Steps.{length-le_from_distinct_below}
use Rattle.cnf_core.specs.Literal.{negated, IsOver}
use Rattle.cnf_core.specs.Trues.{is_true, AreMarks}
use Rattle.sat_watch.specs.Literals.{IsOpen, AreApart}

-- a test is one or the other
pub tested : (b : Bool) → (b ≡ true) ⊎ (b ≡ false)
tested true = inl refl
tested false = inr refl

pub equal : (a b : ℕ) → eqb a b ≡ true → a ≡ b
equal a b h = grind (arith, h)

pub unequal : (a b : ℕ) → eqb a b ≡ false → a ≢ b
unequal a b h q = grind (arith, h, q)

pub even_negated : (n : ℕ) → eqb (n % 2) 0 ≡ true → negated n ≡ n + 1
even_negated n h = rw h refl

pub odd_negated : (n : ℕ) → eqb (n % 2) 0 ≡ false → negated n ≡ n - 1
odd_negated n h = rw h refl

-- the two of a variable are neighbours: the even one and the next
pub halves : (n : ℕ) → ((n % 2 ≡ 0) × (negated n ≡ n + 1)) ⊎ ((n % 2 ≡ 1) × (negated n ≡ n - 1))
halves n = elim (tested (eqb (n % 2) 0)) [
  | inl even ↦ inl (grind (arith, even), even_negated n even)
  | inr odd ↦ inr (let e : n % 2 ≢ 0 = λ q. grind (arith, odd, q) in omega arith, odd_negated n odd)
]

pub negated-half : (n : ℕ) → negated n / 2 ≡ n / 2
negated-half n = elim (halves n) [ inl h ↦ rw h.1 (omega (arith, h.0)) | inr h ↦ rw h.1 (omega (arith, h.0)) ]

pub negated_apart : (n : ℕ) → negated n ≢ n
negated_apart n = elim (halves n) [ inl h ↦ λ q. omega (arith, h.0, h.1, q) | inr h ↦ λ q. omega (arith, h.0, h.1, q) ]

pub negated-negated : (n : ℕ) → negated (negated n) ≡ n
negated-negated n = elim (halves n) [
  | inl h ↦ elim (halves (negated n)) [ inl g ↦ omega (arith, h.0, h.1, g.0, g.1) | inr g ↦ omega (arith, h.0, h.1, g.0, g.1) ]
  | inr h ↦ elim (halves (negated n)) [ inl g ↦ omega (arith, h.0, h.1, g.0, g.1) | inr g ↦ omega (arith, h.0, h.1, g.0, g.1) ]
]

-- two literals of one variable
pub same_half : (n m : ℕ) → n / 2 ≡ m / 2 → (n ≡ m) ⊎ (n ≡ negated m)
same_half n m e = elim (halves m) [
  | inl h ↦ elim (tested (eqb n m)) [ inl same ↦ inl (grind (arith, same)) | inr other ↦ let d : n ≢ m = λ q. grind (arith, other, q) in inr (omega (arith, h.0, h.1)) ]
  | inr h ↦ elim (tested (eqb n m)) [ inl same ↦ inl (grind (arith, same)) | inr other ↦ let d : n ≢ m = λ q. grind (arith, other, q) in inr (omega (arith, h.0, h.1)) ]
]

pub over_negated : (vars n : ℕ) → IsOver vars n → IsOver vars (negated n)
over_negated vars n h = rw negated-half h

pub is_true-append : (xs ys : List ℕ) (q : ℕ) → is_true (xs ++ ys) q ≡ (is_true xs q || is_true ys q)
is_true-append [] ys q = refl
is_true-append (x ∷ xs) ys q = grind (arith, is_true-append xs ys q)

-- no literal that is true has no value
pub open_other : (lits : List ℕ) (lit y : ℕ) → IsOpen (y ∷ lits) lit → (y ≢ lit) × (y ≢ negated lit) × (IsOpen lits lit)
open_other lits lit y o = (λ q. grind (arith, o.0, q), λ q. grind (arith, o.1, q), (grind (arith, o.0), grind (arith, o.1)))

pub apart_vars : (lits : List ℕ) (lit : ℕ) → IsOpen lits lit → 0 < lit / 2 → AllByRecursion (λ y. 0 < y / 2) lits → AllByRecursion (λ v. eqb (lit / 2 - 1) v ≡ false) (map (λ y. y / 2 - 1) lits)
apart_vars [] lit o z a = tt
apart_vars (y ∷ ys) lit o z a = let p = open_other ys lit y o in (
  elim (tested (eqb (lit / 2 - 1) (y / 2 - 1))) [
    | inl same ↦ let e : lit / 2 - 1 ≡ y / 2 - 1 = grind (arith, same) in
        elim (same_half y lit (omega (arith, a.0))) [ inl q ↦ absurd (p.0 q) | inr q ↦ absurd (p.1 q) ]
    | inr other ↦ other
  ],
  apart_vars ys lit p.2 z a.1,
)

pub distinct_vars : (lits : List ℕ) → AreApart lits → AllByRecursion (λ y. 0 < y / 2) lits → IsDistinct eqb (map (λ y. y / 2 - 1) lits)
unfolding IsDistinct
distinct_vars [] a z = tt
distinct_vars (lit ∷ lits) a z = (apart_vars lits lit a.0 z.0 z.1, distinct_vars lits a.1 z.1)

vars_below : (lits : List ℕ) (vars q : ℕ) → AllByRecursion (IsOver vars) lits → list_any (eqb q) (map (λ y. y / 2 - 1) lits) ≡ true → q < vars
vars_below [] vars q o h = absurd (grind arith)
vars_below (lit ∷ lits) vars q o h = elim (tested (eqb q (lit / 2 - 1))) [
  | inl same ↦ let e : q ≡ lit / 2 - 1 = grind (arith, same) in omega (arith, o.0)
  | inr other ↦ vars_below lits vars q o.1 (grind (arith, h, other))
]

-- every variable has at most one literal among them, so there are no more than variables
pub few_apart : (lits : List ℕ) (vars : ℕ) → AreApart lits → All (IsOver vars) lits → length lits ≤ vars
few_apart lits vars a o =
    let over : AllByRecursion (IsOver vars) lits = recursion_from_All (IsOver vars) lits o in
    let e : length (map (λ y. y / 2 - 1) lits) ≡ length lits = length-map lits (λ y. y / 2 - 1) in
    let few : length (map (λ y. y / 2 - 1) lits) ≤ vars =
    length-le_from_distinct_below (map (λ y. y / 2 - 1) lits) vars (distinct_vars lits a (positive lits vars over)) (λ q h. vars_below lits vars q over h) in
    omega arith
  where
    positive : (lits : List ℕ) (vars : ℕ) → AllByRecursion (IsOver vars) lits → AllByRecursion (λ y. 0 < y / 2) lits
    positive [] vars o = tt
    positive (lit ∷ lits) vars o = (o.0.0, positive lits vars o.1)

-- one more literal that has no value
pub apart-push : (lits : List ℕ) (lit : ℕ) → AreApart lits → IsOpen lits lit → AreApart (lits ++ lit ∷ [])
apart-push [] lit a o = ((refl, refl), tt)
apart-push (y ∷ ys) lit a o =
    let p = open_other ys lit y o in
    let back : negated y ≢ lit = λ q. p.1 (sym (negated-negated y) ∙ ap negated q) in
    let away : eqb lit y ≡ false = grind (arith, p.0) in
    let away' : eqb lit (negated y) ≡ false = grind (arith, back) in
    ((is_true-append ys (lit ∷ []) y ∙ grind (arith, a.0.0, away), is_true-append ys (lit ∷ []) (negated y) ∙ grind (arith, a.0.1, away')), apart-push ys lit a.1 p.2)

pub marks-push : (marks : List Bool) (lits : List ℕ) (lit : ℕ) → AreMarks marks lits → lit < length marks → AreMarks (set marks lit true) (lits ++ lit ∷ [])
marks-push marks lits lit m l q = elim (tested (eqb lit q)) [
  | inl same ↦ let e : lit ≡ q = grind (arith, same) in
      subst (λ r. get_or (set marks lit true) r false ≡ is_true (lits ++ lit ∷ []) r) e
      (get_or-set_same marks lit true false l ∙ sym (is_true-append lits (lit ∷ []) lit ∙ grind arith))
  | inr other ↦ let d : q ≢ lit = λ p. grind (arith, other, p) in
      get_or-set_other marks lit q true false d ∙ m q ∙ sym (is_true-append lits (lit ∷ []) q ∙ grind (arith, other))
]

-- the last literal loses its value
pub marks-pop : (marks : List Bool) (lits : List ℕ) (lit : ℕ) → AreMarks marks (lits ++ lit ∷ []) → is_true lits lit ≡ false → lit < length marks → AreMarks (set marks lit false) lits
marks-pop marks lits lit m a l q = elim (tested (eqb lit q)) [
  | inl same ↦ let e : lit ≡ q = grind (arith, same) in
      subst (λ r. get_or (set marks lit false) r false ≡ is_true lits r) e (get_or-set_same marks lit false false l ∙ sym a)
  | inr other ↦ let d : q ≢ lit = λ p. grind (arith, other, p) in
      get_or-set_other marks lit q false false d ∙ m q ∙ is_true-append lits (lit ∷ []) q ∙ grind (arith, other)
]

-- in a list of literals that are apart, the last is not among the others
pub apart-last : (lits : List ℕ) (lit : ℕ) → AreApart (lits ++ lit ∷ []) → is_true lits lit ≡ false
apart-last [] lit a = refl
apart-last (y ∷ ys) lit a = grind (arith, apart-last ys lit a.1, is_true-append ys (lit ∷ []) y, a.0.0)

pub apart-front : (lits more : List ℕ) → AreApart (lits ++ more) → AreApart lits
apart-front [] more a = tt
apart-front (y ∷ ys) more a = ((grind (arith, is_true-append ys more y, a.0.0), grind (arith, is_true-append ys more (negated y), a.0.1)), apart-front ys more a.1)

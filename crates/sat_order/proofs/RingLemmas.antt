use Rattle.std.proofs.Common.{◌≡◌, ◌≢◌, ℕ, zero, suc, ◌+◌, ◌-◌, ◌<◌, true, false, eqb, List, [], ◌∷◌, length, get_or, set, refl, sym, ap, ◌∙◌, subst, inl, inr, ◌⊎◌, arith, get_or-set_same, get_or-set_other, add-one}
use Rattle.std.proofs.lemmas.List.{get_or_read}
use Rattle.std.proofs.Math.ListN.{length-set}
use Rattle.std.proofs.lemmas.Grind.{elements}
use Rattle.sat_order.specs.Lists.{holds, EachOnce, first_of, after, without}
use Rattle.sat_order.specs.Ring.{Linked, along, IsRing}
use Rattle.sat_order.proofs.ListLemmas.{tested, holds-without, absent-without, once-without, without_absent, length-without}

pub along_linked : (n p xs : List ℕ) (a b : ℕ) → Linked n p a xs b → along n (length xs) (get_or n a 0) ≡ xs
along_linked n p [] a b h = refl
along_linked n p (x ∷ xs) a b h = rw h.0 (ap (λ ys. x ∷ ys) (along_linked n p xs x b h.2))

pub length-along : (n : List ℕ) (steps at : ℕ) → length (along n steps at) ≡ steps
length-along n zero at = refl
length-along n (suc k) at = ap suc (length-along n k (get_or n at 0))

-- the first link leads to the first element
pub first_linked : (n p xs : List ℕ) (a : ℕ) → Linked n p a xs 0 → get_or n a 0 ≡ first_of xs
first_linked n p [] a h = h.0
first_linked n p (x ∷ xs) a h = h.0

pub after_linked : (n p xs : List ℕ) (a v : ℕ) → Linked n p a xs 0 → holds xs v ≡ true → get_or n v 0 ≡ after v xs
after_linked n p [] a v h i = grind arith
after_linked n p (x ∷ xs) a v h i = grind (arith, after_linked n p xs x v h.2, first_linked n p xs x h.2)

-- what no link is read from or leads back to may be written
pub next_kept : (n p xs : List ℕ) (a b i u : ℕ) → Linked n p a xs b → holds (a ∷ xs) i ≡ false → Linked (set n i u) p a xs b
next_kept n p [] a b i u h o = grind (arith, get_or-set_other n i a u 0)
next_kept n p (x ∷ xs) a b i u h o = grind (arith, get_or-set_other n i a u 0, next_kept n p xs x b i u h.2)

pub previous_kept : (n p xs : List ℕ) (a b i u : ℕ) → Linked n p a xs b → holds xs i ≡ false → b ≢ i → Linked n (set p i u) a xs b
previous_kept n p [] a b i u h o d = grind (arith, get_or-set_other p i b u 0)
previous_kept n p (x ∷ xs) a b i u h o d = grind (arith, get_or-set_other p i x u 0, previous_kept n p xs x b i u h.2)

-- where the links of an element lead
pub previous_in : (n p xs : List ℕ) (a b v : ℕ) → Linked n p a xs b → holds xs v ≡ true → holds (a ∷ xs) (get_or p v 0) ≡ true
previous_in n p [] a b v h i = grind arith
previous_in n p (x ∷ xs) a b v h i = grind (arith, previous_in n p xs x b v h.2)

pub next_in : (n p xs : List ℕ) (a b v : ℕ) → Linked n p a xs b → holds (a ∷ xs) v ≡ true → (get_or n v 0 ≡ b) ⊎ (holds xs (get_or n v 0) ≡ true)
next_in n p [] a b v h i = grind arith
next_in n p (x ∷ xs) a b v h i = grind (arith, next_in n p xs x b v h.2)

-- a is linked to the elements that v led to
spliced : (n p xs : List ℕ) (a b v : ℕ) → Linked n p v xs b → holds xs a ≡ false → EachOnce xs → holds xs b ≡ false
    → a < length n → b < length p → ((x : ℕ) → holds xs x ≡ true → x < length p)
    → Linked (set n a (get_or n v 0)) (set p (get_or n v 0) a) a xs b
spliced n p [] a b v h o d e la lb lp = rw h.0 ((get_or-set_same n a b 0 la, get_or-set_same p b a 0 lb))
spliced n p (y ∷ ys) a b v h o d e la lb lp =
    let ly : y < length p = lp y (grind arith) in
    let one : Linked (set n a y) p y ys b = next_kept n p ys y b a y h.2 (grind (arith, o)) in
    let apart : b ≢ y = λ q. grind (arith, e, q) in
    let two : Linked (set n a y) (set p y a) y ys b = previous_kept (set n a y) p ys y b y a one d.0 apart in
    subst (λ f. Linked (set n a f) (set p f a) a (y ∷ ys) b) (sym h.0) ((get_or-set_same n a y 0 la, get_or-set_same p y a 0 ly, two))

-- an element that leaves: its neighbours are linked to one another
pub unlinked : (n p xs : List ℕ) (a b v : ℕ) → Linked n p a xs b → EachOnce (a ∷ xs) → holds xs b ≡ false → holds xs v ≡ true
    → a < length n → ((x : ℕ) → holds xs x ≡ true → x < length n) → b < length p → ((x : ℕ) → holds xs x ≡ true → x < length p)
    → Linked (set n (get_or p v 0) (get_or n v 0)) (set p (get_or n v 0) (get_or p v 0)) a (without v xs) b
unlinked n p [] a b v h o e i la ln lb lp = absurd (grind arith)
unlinked n p (x ∷ xs) a b v h o e i la ln lb lp = elim (tested (eqb x v)) [
  | inl here ↦
      let same : x ≡ v = grind (arith, here) in
      let back : get_or p v 0 ≡ a = ap (λ y. get_or p y 0) (sym same) ∙ h.1 in
      let gone : holds xs v ≡ false = ap (holds xs) (sym same) ∙ o.1.0 in
      let led : Linked n p v xs b = subst (λ y. Linked n p y xs b) same h.2 in
      rw (here, back, without_absent xs v gone) (spliced n p xs a b v led (grind (arith, o.0)) o.1.1 (grind (arith, e)) la lb (λ y m. lp y (grind (arith, m))))
  | inr other ↦
      let below : holds xs v ≡ true = grind (arith, other, i) in
      let rest : Linked (set n (get_or p v 0) (get_or n v 0)) (set p (get_or n v 0) (get_or p v 0)) x (without v xs) b =
      unlinked n p xs x b v h.2 o.1 (grind (arith, e)) below (ln x (grind arith)) (λ y m. ln y (grind (arith, m))) lb (λ y m. lp y (grind (arith, m))) in
      let left : holds (x ∷ xs) (get_or p v 0) ≡ true = previous_in n p xs x b v h.2 below in
      let right : (get_or n v 0 ≡ b) ⊎ (holds xs (get_or n v 0) ≡ true) = next_in n p xs x b v h.2 (grind (arith, below)) in
      let apart : a ≢ get_or p v 0 = λ q. grind (arith, o.0) in
      let apart' : x ≢ get_or n v 0 = λ q. grind (arith, o.1.0, e) in
      rw other ((get_or-set_other n _ a _ 0 apart ∙ h.0, get_or-set_other p _ x _ 0 apart' ∙ h.1, rest))
]

-- an element that comes to the front
pub pushed : (n p xs : List ℕ) (v : ℕ) → Linked n p 0 xs 0 → EachOnce (0 ∷ xs) → holds xs v ≡ false → 0 ≢ v
    → 0 < length n → v < length n → length p ≡ length n → ((x : ℕ) → holds xs x ≡ true → x < length n)
    → Linked (set (set n v (get_or n 0 0)) 0 v) (set (set p (get_or n 0 0) v) v 0) 0 (v ∷ xs) 0
pushed n p [] v h o g z l0 lv pair lx = rw h.0 (grind (arith, elements))
pushed n p (x ∷ xs) v h o g z l0 lv pair lx =
    let lx' : x < length n = lx x (grind arith) in
    let x≢v : x ≢ v = λ q. grind (arith, g, q) in
    let none : holds (x ∷ xs) 0 ≡ false = o.0 in
    let x≢0 : 0 ≢ x = λ q. grind (arith, none, q) in
    let one : Linked (set n v x) p x xs 0 = next_kept n p xs x 0 v x h.2 g in
    let two : Linked (set (set n v x) 0 v) p x xs 0 = next_kept (set n v x) p xs x 0 0 v one none in
    let three : Linked (set (set n v x) 0 v) (set p x v) x xs 0 = previous_kept (set (set n v x) 0 v) p xs x 0 x v two o.1.0 x≢0 in
    let four : Linked (set (set n v x) 0 v) (set (set p x v) v 0) x xs 0 = previous_kept (set (set n v x) 0 v) (set p x v) xs x 0 v 0 three (grind (arith, g)) z in
    subst (λ f. Linked (set (set n v f) 0 v) (set (set p f v) v 0) 0 (v ∷ x ∷ xs) 0) (sym h.0)
    ((grind (arith, elements), grind (arith, elements), (grind (arith, elements), grind (arith, elements), four)))

-- what is read along the links of a ring
pub ring_read : (n p xs : List ℕ) (steps : ℕ) → IsRing n p xs → length xs ≡ steps → along n steps (get_or n 0 0) ≡ xs
ring_read n p xs steps r e = subst (λ k. along n k (get_or n 0 0) ≡ xs) e (along_linked n p xs 0 0 r.linked)

pub ring_without : (n p xs : List ℕ) (v : ℕ) → 0 < length n → IsRing n p xs → holds xs v ≡ true
    → IsRing (set n (get_or p v 0) (get_or n v 0)) (set p (get_or n v 0) (get_or p v 0)) (without v xs)
ring_without n p xs v l r i = record {
  linked = unlinked n p xs 0 0 v r.linked r.once r.once.0 i l r.within (rw r.paired l) (λ x m. rw r.paired (r.within x m));
  once = (absent-without xs v 0 r.once.0, once-without xs v r.once.1);
  within = λ x m. rw length-set (r.within x (holds-without xs v x m));
  paired = length-set p _ _ ∙ r.paired ∙ sym (length-set n _ _);
}

pub ring_pushed : (n p xs : List ℕ) (v : ℕ) → 0 < length n → IsRing n p xs → holds xs v ≡ false → 0 < v → v < length n
    → IsRing (set (set n v (get_or n 0 0)) 0 v) (set (set p (get_or n 0 0) v) v 0) (v ∷ xs)
ring_pushed n p xs v l r g z lv = record {
  linked = pushed n p xs v r.linked r.once g (λ q. omega arith) l lv r.paired r.within;
  once = (grind (arith, r.once), (g, r.once.1));
  within = λ x m. simp length-set (grind (arith, r.within x, m));
  paired = simp length-set r.paired;
}

-- a link of a ring leads to a place of it
pub previous_within : (n p xs : List ℕ) (v : ℕ) → 0 < length n → IsRing n p xs → holds xs v ≡ true → get_or p v 0 < length n
previous_within n p xs v l r i = grind (arith, previous_in n p xs 0 0 v r.linked i, r.within (get_or p v 0))

pub next_within : (n p xs : List ℕ) (v : ℕ) → 0 < length n → IsRing n p xs → holds (0 ∷ xs) v ≡ true → get_or n v 0 < length n
next_within n p xs v l r i = grind (arith, next_in n p xs 0 0 v r.linked i, r.within (get_or n v 0))

-- the ring is read from its links: n and p, in so many steps
abbrev pub Reads : List ℕ → List ℕ → ℕ → List ℕ → Type 0
Reads n p steps xs = IsRing n p (along n steps (get_or n 0 0)) × (along n steps (get_or n 0 0) ≡ xs)

pub reads : (n p xs : List ℕ) (steps : ℕ) → IsRing n p xs → length xs ≡ steps → Reads n p steps xs
reads n p xs steps r e = (subst (IsRing n p) (sym (ring_read n p xs steps r e)) r, ring_read n p xs steps r e)

pub reads_without : (n p xs : List ℕ) (steps v b f : ℕ) → 0 < length n → IsRing n p (along n steps (get_or n 0 0)) → along n steps (get_or n 0 0) ≡ xs
    → holds xs v ≡ true → b ≡ get_or p v b → f ≡ get_or n v f
    → Reads (set n b f) (set p f b) (steps - 1) (without v xs)
reads_without n p xs steps v b f l r e i eb ef =
    let ring : IsRing n p xs = subst (IsRing n p) e r in
    let lv : v < length n = ring.within v i in
    let eb' : b ≡ get_or p v 0 = get_or_read p v b (rw ring.paired lv) eb 0 in
    let ef' : f ≡ get_or n v 0 = get_or_read n v f lv ef 0 in
    let long : length xs ≡ steps = ap length (sym e) ∙ length-along n steps (get_or n 0 0) in
    let less : length (without v xs) + 1 ≡ length xs = length-without xs v ring.once.1 i in
    let out : IsRing (set n b f) (set p f b) (without v xs) = rw (eb', ef') (ring_without n p xs v l ring i) in
    reads (set n b f) (set p f b) (without v xs) (steps - 1) out (omega arith)

-- where the two links of an element lead
pub neighbours : (n p xs : List ℕ) (steps v b f : ℕ) → 0 < length n → IsRing n p (along n steps (get_or n 0 0)) → along n steps (get_or n 0 0) ≡ xs
    → holds xs v ≡ true → b ≡ get_or p v b → f ≡ get_or n v f → (b < length n) × (f < length p)
neighbours n p xs steps v b f l r e i eb ef =
    let ring : IsRing n p xs = subst (IsRing n p) e r in
    let lv : v < length n = ring.within v i in
    let eb' : b ≡ get_or p v 0 = get_or_read p v b (rw ring.paired lv) eb 0 in
    let ef' : f ≡ get_or n v 0 = get_or_read n v f lv ef 0 in
    let known : holds (0 ∷ xs) v ≡ true = grind (arith, i) in
    (rw eb' (previous_within n p xs v l ring i), rw (ef', ring.paired) (next_within n p xs v l ring known))

pub reads_pushed : (n p xs : List ℕ) (steps v f : ℕ) → 0 < length n → IsRing n p (along n steps (get_or n 0 0)) → along n steps (get_or n 0 0) ≡ xs
    → holds xs v ≡ false → 0 < v → v < length n → f ≡ get_or n 0 f
    → Reads (set (set n v f) 0 v) (set (set p f v) v 0) (steps + 1) (v ∷ xs)
reads_pushed n p xs steps v f l r e g z lv ef =
    let ring : IsRing n p xs = subst (IsRing n p) e r in
    let ef' : f ≡ get_or n 0 0 = get_or_read n 0 f l ef 0 in
    let long : length xs ≡ steps = ap length (sym e) ∙ length-along n steps (get_or n 0 0) in
    let out : IsRing (set (set n v f) 0 v) (set (set p f v) v 0) (v ∷ xs) = rw ef' (ring_pushed n p xs v l ring g z lv) in
    reads (set (set n v f) 0 v) (set (set p f v) v 0) (v ∷ xs) (steps + 1) out (ap suc long ∙ sym (add-one steps))

pub reads_after : (n p xs : List ℕ) (steps v f : ℕ) → 0 < length n → IsRing n p (along n steps (get_or n 0 0)) → along n steps (get_or n 0 0) ≡ xs
    → holds xs v ≡ true → f ≡ get_or n v f → f ≡ after v xs
reads_after n p xs steps v f l r e i ef =
    let ring : IsRing n p xs = subst (IsRing n p) e r in
    get_or_read n v f (ring.within v i) ef 0 ∙ after_linked n p xs 0 v ring.linked i

pub first_within : (n p xs : List ℕ) (steps f : ℕ) → 0 < length n → IsRing n p (along n steps (get_or n 0 0)) → along n steps (get_or n 0 0) ≡ xs
    → f ≡ get_or n 0 f → f < length p
first_within n p xs steps f l r e ef =
    let ring : IsRing n p xs = subst (IsRing n p) e r in
    let ef' : f ≡ get_or n 0 0 = get_or_read n 0 f l ef 0 in
    rw (ef', ring.paired) (next_within n p xs 0 l ring (grind arith))

use Rattle.std.proofs.Common.{◌≡◌, ◌≢◌, ℕ, zero, suc, ◌+◌, ◌-◌, ◌<◌, ◌≤◌, Bool, true, false, cond, eqb, ltb, not, List, [], ◌∷◌, length, get_or, set, refl, sym, ap, ◌∙◌, subst, inl, inr, ◌⊎◌, arith, get_or-set_same, get_or-set_other, add-one, Option, Some, None}
use Rattle.std.specs.List.{range_with_len, find}
use Rattle.std.specs.Prelude.{unwrap_or, IsNone}
use Rattle.sat_order.specs.Lists.{holds, EachOnce, after, before, from, without}
use Rattle.sat_order.specs.Order.{IsOrder, is_free, Falls}
use Rattle.sat_order.proofs.ListLemmas.{tested, gone-without, kept-without, once-without, length-without, apart_behind, before_after-without, before-without, holds_after, from_after, from_absent, before_after, holds-push, before_absent, absent_before}
use Rattle.std.proofs.lemmas.List.{get_or_default, get_or_read}
use Rattle.std.proofs.lemmas.List.FromFn.{length-range_with_len}

-- an element of a falling list has a stamp below the bound
pub falls_below : (stamps xs : List ℕ) (bound v : ℕ) → Falls stamps bound xs → holds xs v ≡ true → get_or stamps v 0 < bound
falls_below stamps [] bound v f h = absurd (grind arith)
falls_below stamps (y ∷ ys) bound v f h = grind (arith, falls_below stamps ys (get_or stamps y 0) v f.1)

-- of two elements the one with the greater stamp stands further in front
pub falls_before : (stamps xs : List ℕ) (bound c v : ℕ) → Falls stamps bound xs → holds xs c ≡ true → holds xs v ≡ true
    → holds (before c xs) v ≡ ltb (get_or stamps c 0) (get_or stamps v 0)
falls_before stamps [] bound c v f h i = absurd (grind arith)
falls_before stamps (y ∷ ys) bound c v f h i = grind (arith, falls_before stamps ys (get_or stamps y 0) c v f.1, falls_below stamps ys (get_or stamps y 0) v f.1, falls_below stamps ys (get_or stamps y 0) c f.1)

pub falls_more : (stamps xs : List ℕ) (bound more : ℕ) → Falls stamps bound xs → bound ≤ more → Falls stamps more xs
falls_more stamps [] bound more f l = f
falls_more stamps (y ∷ ys) bound more f l = (omega arith, f.1)

pub falls-without : (stamps xs : List ℕ) (bound v : ℕ) → Falls stamps bound xs → Falls stamps bound (without v xs)
falls-without stamps [] bound v f = f
falls-without stamps (y ∷ ys) bound v f = elim (tested (eqb y v)) [
  | inl here ↦ rw here (falls-without stamps ys bound v (falls_more stamps ys (get_or stamps y 0) bound f.1 (omega arith)))
  | inr other ↦ rw other ((f.0, falls-without stamps ys (get_or stamps y 0) v f.1))
]

pub falls-set : (stamps xs : List ℕ) (bound v n : ℕ) → Falls stamps bound xs → holds xs v ≡ false → Falls (set stamps v n) bound xs
falls-set stamps [] bound v n f h = f
falls-set stamps (y ∷ ys) bound v n f h =
    let apart : y ≢ v = λ q. grind (arith, h, q) in
    rw get_or-set_other ((f.0, falls-set stamps ys (get_or stamps y 0) v n f.1 (grind (arith, h))))

-- stamps that count what is left of the list fall
pub falls_counted : (stamps xs : List ℕ) → EachOnce xs → ((x : ℕ) → holds xs x ≡ true → get_or stamps x 0 ≡ length (from x xs)) → Falls stamps (length xs + 1) xs
falls_counted stamps [] o h = tt
falls_counted stamps (y ∷ ys) o h =
    let here : get_or stamps y 0 ≡ length ys + 1 = grind (arith, h y) in
    let rest : Falls stamps (length ys + 1) ys = falls_counted stamps ys o.1 (λ x m. grind (arith, h x, m, o.0)) in
    (omega (arith, here), subst (λ b. Falls stamps b ys) (sym here) rest)

-- the numbers from a on
pub absent_range : (a n v : ℕ) → v < a → holds (range_with_len a n) v ≡ false
absent_range a zero v l = refl
absent_range a (suc n) v l = grind (arith, absent_range (a + 1) n v)

pub once_range : (a n : ℕ) → EachOnce (range_with_len a n)
once_range a zero = tt
once_range a (suc n) = (absent_range (a + 1) n a (omega arith), once_range (a + 1) n)

pub holds_range : (a n v : ℕ) → a ≤ v → v < a + n → holds (range_with_len a n) v ≡ true
holds_range a zero v l m = absurd (omega arith)
holds_range a (suc n) v l m = grind (arith, holds_range (a + 1) n v)

pub within_range : (a n v : ℕ) → holds (range_with_len a n) v ≡ true → (a ≤ v) × (v < a + n)
within_range a zero v h = absurd (grind arith)
within_range a (suc n) v h = grind (arith, within_range (a + 1) n v)

pub order_range : (n : ℕ) → IsOrder (range_with_len 1 n)
order_range n = record {
  once = once_range 1 n;
  each = λ v. (
    λ h. let w : (1 ≤ v) × (v < 1 + n) = within_range 1 n v h in (omega arith, rw length-range_with_len (omega arith)),
    λ h. holds_range 1 n v (omega arith) (let e : length (range_with_len 1 n) ≡ n = length-range_with_len 1 n in omega arith),
  );
}

pub moved_holds : (xs : List ℕ) (v x : ℕ) → holds xs v ≡ true → holds (v ∷ without v xs) x ≡ holds xs x
moved_holds xs v x h = elim (tested (eqb v x)) [
  | inl here ↦ grind (arith, here, h)
  | inr other ↦ let apart : x ≢ v = λ q. grind (arith, other, q) in grind (arith, other, kept-without xs v x apart)
]

pub length_moved : (xs : List ℕ) (v : ℕ) → EachOnce xs → holds xs v ≡ true → length (v ∷ without v xs) ≡ length xs
length_moved xs v o h = sym (add-one (length (without v xs))) ∙ length-without xs v o h

pub order_moved : (xs : List ℕ) (v : ℕ) → IsOrder xs → holds xs v ≡ true → IsOrder (v ∷ without v xs)
order_moved xs v o h = record {
  once = (gone-without xs v, once-without xs v o.once);
  each = λ x. rw (length_moved xs v o.once h, moved_holds xs v x h) (o.each x);
}

-- 0 is no variable
pub once_order : (xs : List ℕ) → IsOrder xs → EachOnce (0 ∷ xs)
once_order xs o = elim (tested (holds xs 0)) [
  | inl here ↦ absurd (omega (arith, (o.each 0).0 here))
  | inr none ↦ (none, o.once)
]

-- the cursor, once an element has moved to the front
pub passed_moved : (xs : List ℕ) (c v d : ℕ) → EachOnce (0 ∷ xs) → holds xs v ≡ true → d ≡ cond (eqb c v) (after v xs) c
    → before d (v ∷ without v xs) ≡ v ∷ without v (before c xs)
passed_moved xs c v d o h e = elim (tested (eqb c v)) [
  | inl here ↦
      let same : c ≡ v = grind (arith, here) in
      let at : d ≡ after v xs = e ∙ ap (λ b. cond b (after v xs) c) here in
      subst (λ d. before d (v ∷ without v xs) ≡ v ∷ without v (before c xs)) (sym at) (rw (apart_behind v xs o h) (subst (λ d. v ∷ before (after v xs) (without v xs) ≡ v ∷ without v (before d xs)) (sym same) (ap (λ ys. v ∷ ys) (before_after-without v xs o h))))
  | inr other ↦
      let away : eqb v c ≡ false = grind (arith, other) in
      let at : d ≡ c = e ∙ ap (λ b. cond b (after v xs) c) other in
      subst (λ d. before d (v ∷ without v xs) ≡ v ∷ without v (before c xs)) (sym at) (rw away (ap (λ ys. v ∷ ys) (before-without c v xs other)))
]

pub cursor_moved : (xs : List ℕ) (c v d : ℕ) → holds xs v ≡ true → holds (0 ∷ xs) c ≡ true → d ≡ cond (eqb c v) (after v xs) c
    → holds (0 ∷ v ∷ without v xs) d ≡ true
cursor_moved xs c v d h i e = elim (tested (eqb c v)) [
  | inl here ↦
      let at : d ≡ after v xs = e ∙ ap (λ b. cond b (after v xs) c) here in
      subst (λ d. holds (0 ∷ v ∷ without v xs) d ≡ true) (sym at) (grind (arith, moved_holds xs v (after v xs) h, holds_after v xs))
  | inr other ↦
      let at : d ≡ c = e ∙ ap (λ b. cond b (after v xs) c) other in
      subst (λ d. holds (0 ∷ v ∷ without v xs) d ≡ true) (sym at) (grind (arith, moved_holds xs v c h, i))
]

-- the stamps, once an element has moved to the front
pub falls_moved : (stamps xs : List ℕ) (v newest : ℕ) → Falls stamps (newest + 1) xs → v < length stamps
    → Falls (set stamps v (newest + 1)) (newest + 1 + 1) (v ∷ without v xs)
falls_moved stamps xs v newest f l =
    rw (get_or-set_same stamps v (newest + 1) 0 l) ((omega arith, falls-set stamps (without v xs) (newest + 1) v (newest + 1) (falls-without stamps xs (newest + 1) v f) (gone-without xs v)))

-- at an element of the list, no cursor at 0 stands
pub at_element : (xs : List ℕ) (at : ℕ) → holds (0 ∷ xs) at ≡ true → at ≢ 0 → holds xs at ≡ true
at_element xs at h n = grind (arith, h)

-- one step of a walk along the list
pub walk_falls : (xs : List ℕ) (at : ℕ) → IsOrder xs → holds (0 ∷ xs) at ≡ true → at ≢ 0 → length (from (after at xs) xs) < length (from at xs)
walk_falls xs at o h n = let e : length (from at xs) ≡ length (from (after at xs) xs) + 1 = ap length (from_after at xs (once_order xs o) (at_element xs at h n)) ∙ sym (add-one _) in omega arith

pub find_after : (p : ℕ → Bool) (xs : List ℕ) (at : ℕ) → IsOrder xs → holds (0 ∷ xs) at ≡ true → at ≢ 0 → p at ≡ false
    → find p (from (after at xs) xs) ≡ find p (from at xs)
find_after p xs at o h n f = sym (ap (find p) (from_after at xs (once_order xs o) (at_element xs at h n)) ∙ rw f refl)

pub find_here : (p : ℕ → Bool) (xs : List ℕ) (at : ℕ) → IsOrder xs → holds (0 ∷ xs) at ≡ true → at ≢ 0 → p at ≡ true
    → find p (from at xs) ≡ Some at
find_here p xs at o h n f = ap (find p) (from_after at xs (once_order xs o) (at_element xs at h n)) ∙ rw f refl

pub find_none : (p : ℕ → Bool) (xs : List ℕ) (at : ℕ) → IsOrder xs → at ≡ 0 → find p (from at xs) ≡ None
find_none p xs at o z = ap (find p) (from_absent at xs (ap (holds xs) z ∙ (once_order xs o).0))

-- the stamps that are dealt along a walk
pub dealt_more : (stamps xs : List ℕ) (at left : ℕ) → IsOrder xs → holds (0 ∷ xs) at ≡ true → at ≢ 0 → at < length stamps → left ≡ length (from at xs)
    → ((x : ℕ) → holds (before at xs) x ≡ true → get_or stamps x 0 ≡ length (from x xs))
    → (x : ℕ) → holds (before (after at xs) xs) x ≡ true → get_or (set stamps at left) x 0 ≡ length (from x xs)
dealt_more stamps xs at left o h n l e d x m =
    let here : holds xs at ≡ true = at_element xs at h n in
    let split : (holds (before at xs) x ≡ true) ⊎ (x ≡ at) = holds-push (before at xs) at x (sym (ap (λ ys. holds ys x) (before_after at xs (once_order xs o) here)) ∙ m) in
    elim split [
      | inl old ↦ let apart : x ≢ at = λ q. let none : holds (before at xs) at ≡ false = absent_before at xs in grind (arith, old, none, q) in rw get_or-set_other (d x old)
      | inr new ↦ subst (λ y. get_or (set stamps at left) y 0 ≡ length (from y xs)) (sym new) (get_or-set_same stamps at left 0 l ∙ e)
    ]

pub left_more : (xs : List ℕ) (at left : ℕ) → IsOrder xs → holds (0 ∷ xs) at ≡ true → at ≢ 0 → left ≡ length (from at xs)
    → (1 ≤ left) × (left - 1 ≡ length (from (after at xs) xs))
left_more xs at left o h n e =
    let step : length (from at xs) ≡ length (from (after at xs) xs) + 1 = ap length (from_after at xs (once_order xs o) (at_element xs at h n)) ∙ sym (add-one _) in
    (omega arith, omega arith)

pub dealt_all : (stamps xs : List ℕ) (at : ℕ) → IsOrder xs → at ≡ 0
    → ((x : ℕ) → holds (before at xs) x ≡ true → get_or stamps x 0 ≡ length (from x xs)) → Falls stamps (length xs + 1) xs
dealt_all stamps xs at o z d =
    let none : holds xs at ≡ false = ap (holds xs) z ∙ (once_order xs o).0 in
    falls_counted stamps xs o.once (λ x m. d x (ap (λ ys. holds ys x) (before_absent at xs none) ∙ m))

pub found_none : (p : ℕ → Bool) (xs : List ℕ) (v : ℕ) → find p xs ≡ None → holds xs v ≡ true → p v ≡ false
found_none p [] v f h = absurd (grind arith)
found_none p (y ∷ ys) v f h = elim (tested (p y)) [
  | inl passes ↦ absurd (let e : Some y ≡ None = sym (rw passes refl) ∙ f in cc)
  | inr fails ↦ let rest : find p ys ≡ None = rw fails at f in elim (tested (eqb y v)) [
    | inl here ↦ let same : y ≡ v = grind (arith, here) in ap p (sym same) ∙ fails
    | inr other ↦ found_none p ys v rest (grind (arith, other, h))
  ]
]

pub find_absent : (p : ℕ → Bool) (xs : List ℕ) → ((v : ℕ) → holds xs v ≡ true → p v ≡ false) → find p xs ≡ None
find_absent p [] h = refl
find_absent p (y ∷ ys) h = rw (h y (grind arith)) (find_absent p ys (λ v m. h v (grind (arith, m))))

-- the first of all is the first from the cursor on, where none is before it
pub find_from : (p : ℕ → Bool) (xs : List ℕ) (at : ℕ) → ((v : ℕ) → holds (before at xs) v ≡ true → p v ≡ false) → find p xs ≡ find p (from at xs)
find_from p [] at h = refl
find_from p (y ∷ ys) at h = elim (tested (eqb y at)) [
  | inl here ↦ rw here refl
  | inr other ↦
      let fails : p y ≡ false = h y (grind (arith, other)) in
      rw (other, fails) (find_from p ys at (λ v m. h v (grind (arith, other, m))))
]

is_set : (set : List Bool) (k j : ℕ) → not (get_or set j false) ≡ false → j ≡ k → get_or set k false ≡ true
is_set set k j f e = grind (arith, f, e)

is_none : (o : Option ℕ) → IsNone o → o ≡ None
is_none None h = refl
is_none (Some x) h = absurd (cc)

-- nothing is free exactly where all are set
pub none_free : (set : List Bool) (xs : List ℕ) (o : Option ℕ) → IsOrder xs → length set ≡ length xs → o ≡ find (is_free set) xs
    → (IsNone o → (k : ℕ) → (d : Bool) → k < length set → get_or set k d ≡ true)
    × (((k : ℕ) → (d : Bool) → k < length set → get_or set k d ≡ true) → IsNone o)
none_free set xs o w l e = (
  λ f k d m.
      let there : holds xs (k + 1) ≡ true = (w.each (k + 1)).1 (omega arith, omega arith) in
      let free : is_free set (k + 1) ≡ false = found_none (is_free set) xs (k + 1) (sym e ∙ is_none o f) there in
      get_or_default set k d false m ∙ is_set set k (k + 1 - 1) free (omega arith),
  λ a. rw (e ∙ find_absent (is_free set) xs (λ v h.
      let known : (0 < v) × (v ≤ length xs) = (w.each v).0 h in
      rw (a (v - 1) false (omega arith)) refl)) refl,
)

-- past them all, every element was passed
pub passed_all : (xs : List ℕ) (at v : ℕ) → IsOrder xs → at ≡ 0 → holds xs v ≡ true → holds (before at xs) v ≡ true
passed_all xs at v o z h = let none : holds xs at ≡ false = ap (holds xs) z ∙ (once_order xs o).0 in ap (λ ys. holds ys v) (before_absent at xs none) ∙ h

pub element_within : (xs : List ℕ) (v : ℕ) → IsOrder xs → holds (0 ∷ xs) v ≡ true → v < length xs + 1
element_within xs v o h = elim (tested (eqb v 0)) [
  | inl none ↦ let same : v ≡ 0 = grind (arith, none) in omega arith
  | inr other ↦ let apart : v ≢ 0 = λ q. grind (arith, other, q) in let known : (0 < v) × (v ≤ length xs) = (o.each v).0 (at_element xs v h apart) in omega arith
]

pub is_passed : (stamps xs : List ℕ) (bound at v s t : ℕ) → IsOrder xs → Falls stamps bound xs → length stamps ≡ length xs + 1 → holds (0 ∷ xs) at ≡ true → at ≢ 0 → holds xs v ≡ true
    → s ≡ get_or stamps at s → t ≡ get_or stamps v t → ltb s t ≡ holds (before at xs) v
is_passed stamps xs bound at v s t o f l h n i es et =
    let here : holds xs at ≡ true = at_element xs at h n in
    let ws : at < length stamps = rw l (element_within xs at o h) in
    let wt : v < length stamps = rw l (element_within xs v o (grind (arith, i))) in
    sym (falls_before stamps xs bound at v f here i ∙ ap (λ x. ltb x (get_or stamps v 0)) (sym (get_or_read stamps at s ws es 0)) ∙ ap (λ x. ltb s x) (sym (get_or_read stamps v t wt et 0)))

find_passes : (p : ℕ → Bool) (y : ℕ) (ys : List ℕ) → p y ≡ true → find p (y ∷ ys) ≡ Some y
find_passes p y ys h = rw h refl

find_fails : (p : ℕ → Bool) (y : ℕ) (ys : List ℕ) → p y ≡ false → find p (y ∷ ys) ≡ find p ys
find_fails p y ys h = rw h refl

pub found_in : (p : ℕ → Bool) (xs : List ℕ) → holds (0 ∷ xs) (unwrap_or (find p xs) 0) ≡ true
found_in p [] = refl
found_in p (y ∷ ys) = elim (tested (p y)) [
  | inl passes ↦ subst (λ o. holds (0 ∷ y ∷ ys) (unwrap_or o 0) ≡ true) (sym (find_passes p y ys passes)) (grind arith)
  | inr fails ↦ subst (λ o. holds (0 ∷ y ∷ ys) (unwrap_or o 0) ≡ true) (sym (find_fails p y ys fails)) (grind (arith, found_in p ys))
]

pub holds_found : (p : ℕ → Bool) (xs : List ℕ) (at : ℕ) → holds (0 ∷ xs) (unwrap_or (find p (from at xs)) 0) ≡ true
holds_found p [] at = refl
holds_found p (y ∷ ys) at = elim (tested (eqb y at)) [
  | inl here ↦ let e : from at (y ∷ ys) ≡ y ∷ ys = rw here refl in subst (λ zs. holds (0 ∷ y ∷ ys) (unwrap_or (find p zs) 0) ≡ true) (sym e) (found_in p (y ∷ ys))
  | inr other ↦ let e : from at (y ∷ ys) ≡ from at ys = rw other refl in subst (λ zs. holds (0 ∷ y ∷ ys) (unwrap_or (find p zs) 0) ≡ true) (sym e) (grind (arith, holds_found p ys at))
]

before_found_past : (p : ℕ → Bool) (y : ℕ) (ys : List ℕ) (v : ℕ) → holds (y ∷ ys) 0 ≡ false → p y ≡ false
    → ((w : ℕ) → holds (before (unwrap_or (find p ys) 0) ys) w ≡ true → p w ≡ false)
    → holds (before (unwrap_or (find p ys) 0) (y ∷ ys)) v ≡ true → p v ≡ false
before_found_past p y ys v n fails ih h = elim (tested (eqb y v)) [
  | inl here ↦ let same : y ≡ v = grind (arith, here) in ap p (sym same) ∙ fails
  | inr other ↦ ih v (grind (arith, h, other))
]

-- what stands before what is found is not it
pub before_found : (p : ℕ → Bool) (xs : List ℕ) (v : ℕ) → holds xs 0 ≡ false → holds (before (unwrap_or (find p xs) 0) xs) v ≡ true → p v ≡ false
before_found p [] v n h = absurd (grind arith)
before_found p (y ∷ ys) v n h = elim (tested (p y)) [
  | inl passes ↦ absurd (
      let e : holds (before y (y ∷ ys)) v ≡ true = subst (λ o. holds (before (unwrap_or o 0) (y ∷ ys)) v ≡ true) (find_passes p y ys passes) h in grind (arith, e))
  | inr fails ↦
      let e : holds (before (unwrap_or (find p ys) 0) (y ∷ ys)) v ≡ true = subst (λ o. holds (before (unwrap_or o 0) (y ∷ ys)) v ≡ true) (find_fails p y ys fails) h in
      before_found_past p y ys v n fails (λ w m. before_found p ys w (grind (arith, n)) m) e
]

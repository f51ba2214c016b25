-- Many variables that move to the front together.
use Rattle.std.proofs.Common.{◌≡◌, ◌≢◌, ℕ, suc, ◌+◌, ◌-◌, ◌<◌, ◌≤◌, ◌&&◌, ◌||◌, Bool, true, false, eqb, not, List, [], ◌∷◌, ◌++◌, All, length, map, take, filter, get_or, refl, sym, ap, subst, ◌∙◌, inl, inr, ◌⊎◌, arith}
use Rattle.std.specs.List.{IsDistinct, AllByRecursion}
use Rattle.std.specs.List.Sorted.{IsPermutation, IsNonDecreasingBy}
use Rattle.std.proofs.lemmas.Map.Keys.{IsDistinct-IsPermutation}
use Rattle.std.proofs.lemmas.List.Sorted.{list_any-IsPermutation, IsNonDecreasingBy-drop, IsPermutation-map, All-permutation}
use Rattle.std.proofs.lemmas.List.Elements.{All-head, All-tail, All-map}
use Rattle.std.proofs.lemmas.List.{map-append, take_more}
use Rattle.sat_order.specs.Lists.{holds, EachOnce, without}
use Rattle.sat_order.specs.Order.{Falls, moved_up}
use Rattle.sat_order.specs.declared.queue.Aged.{Aged}
use Rattle.sat_order.proofs.ListLemmas.{tested, without_absent, holds-without}
use Rattle.sat_order.proofs.OrderLemmas.{falls_below, falls_more}

-- MEMBERS

holds_by : (b : Bool) (y v : ℕ) (p : ℕ → Bool) (ys : List ℕ) → p y ≡ b → holds (filter p ys) v ≡ (holds ys v && p v) → holds (filter p (y ∷ ys)) v ≡ (holds (y ∷ ys) v && p v)
holds_by b y v p ys is below = elim (tested (eqb y v)) [
  | inl same ↦ let e : y ≡ v = grind arith in subst (λ w. holds (filter p (y ∷ ys)) w ≡ (holds (y ∷ ys) w && p w)) e (grind (arith, is, tested b, subst (λ w. holds (filter p ys) w ≡ (holds ys w && p w)) (sym e) below))
  | inr apart ↦ grind (arith, is, tested b, below)
]

pub holds-filter : (p : ℕ → Bool) (xs : List ℕ) (v : ℕ) → holds (filter p xs) v ≡ (holds xs v && p v)
holds-filter p [] v = refl
holds-filter p (y ∷ ys) v = holds_by (p y) y v p ys refl (holds-filter p ys v)

-- FALLING STAMPS

pub falls_filter : (stamps : List ℕ) (bound : ℕ) (p : ℕ → Bool) (xs : List ℕ) → Falls stamps bound xs → Falls stamps bound (filter p xs)
falls_filter stamps bound p [] f = f
falls_filter stamps bound p (x ∷ xs) f = elim (tested (p x)) [
  | inl kept ↦ rw kept (f.0, falls_filter stamps (get_or stamps x 0) p xs f.1)
  | inr gone ↦ rw gone (falls_filter stamps bound p xs (falls_more stamps xs (get_or stamps x 0) bound f.1 (omega (arith, f.0))))
]

-- an element behind the first has a smaller stamp, and so is another
below_first : (stamps xs : List ℕ) (bound x v : ℕ) → Falls stamps bound (x ∷ xs) → holds xs v ≡ true → get_or stamps v 0 < get_or stamps x 0
below_first stamps xs bound x v f h = falls_below stamps xs (get_or stamps x 0) v f.1 h

in_tail : (y : ℕ) (ys : List ℕ) (v : ℕ) → holds (y ∷ ys) v ≡ true → y ≢ v → holds ys v ≡ true
in_tail y ys v h n = grind arith

first_in : (y : ℕ) (ys : List ℕ) → holds (y ∷ ys) y ≡ true
first_in y ys = grind arith

-- the first elements of two falling lists with the same elements are the same
same_first : (stamps xs ys : List ℕ) (b c x y : ℕ) → Falls stamps b (x ∷ xs) → Falls stamps c (y ∷ ys)
    → holds (x ∷ xs) y ≡ true → holds (y ∷ ys) x ≡ true → (eqb x y ≡ true) ⊎ (eqb x y ≡ false) → x ≡ y
same_first stamps xs ys b c x y f g hx hy (inl same) = grind arith
same_first stamps xs ys b c x y f g hx hy (inr apart) =
    let one : get_or stamps y 0 < get_or stamps x 0 = below_first stamps xs b x y f (in_tail x xs y hx (grind arith)) in
    let other : get_or stamps x 0 < get_or stamps y 0 = below_first stamps ys c y x g (in_tail y ys x hy (grind arith)) in
    absurd (omega (arith, one, other))

-- the first one of a falling list is not behind itself
not_behind : (stamps xs : List ℕ) (bound x : ℕ) → Falls stamps bound (x ∷ xs) → holds xs x ≡ false
not_behind stamps xs bound x f = elim (tested (holds xs x)) [
  | inl h ↦ absurd (omega (arith, below_first stamps xs bound x x f h))
  | inr n ↦ n
]

tail_same : (x : ℕ) (xs ys : List ℕ) (v : ℕ) → holds xs x ≡ false → holds ys x ≡ false → holds (x ∷ xs) v ≡ holds (x ∷ ys) v → holds xs v ≡ holds ys v
tail_same x xs ys v n m same = elim (tested (eqb x v)) [
  | inl e ↦ let is : x ≡ v = grind arith in subst (λ w. holds xs w ≡ holds ys w) is (n ∙ sym m)
  | inr e ↦ grind (arith, e, same)
]

pub falls_unique : (stamps xs ys : List ℕ) (b c : ℕ) → Falls stamps b xs → Falls stamps c ys → ((v : ℕ) → holds xs v ≡ holds ys v) → xs ≡ ys
falls_unique stamps [] [] b c f g same = refl
falls_unique stamps [] (y ∷ ys) b c f g same = absurd (let h : holds [] y ≡ true = same y ∙ first_in y ys in grind arith)
falls_unique stamps (x ∷ xs) [] b c f g same = absurd (let h : true ≡ holds [] x = sym (first_in x xs) ∙ same x in grind arith)
falls_unique stamps (x ∷ xs) (y ∷ ys) b c f g same =
    let e : x ≡ y = same_first stamps xs ys b c x y f g (same y ∙ first_in y ys) (sym (same x) ∙ first_in x xs) (tested (eqb x y)) in
    let g' : Falls stamps c (x ∷ ys) = subst (λ z. Falls stamps c (z ∷ ys)) (sym e) g in
    let same' : (v : ℕ) → holds (x ∷ xs) v ≡ holds (x ∷ ys) v = subst (λ z. (v : ℕ) → holds (x ∷ xs) v ≡ holds (z ∷ ys) v) (sym e) same in
    let rest : xs ≡ ys = falls_unique stamps xs ys (get_or stamps x 0) (get_or stamps x 0) f.1 g'.1
    (λ v. tail_same x xs ys v (not_behind stamps xs b x f) (not_behind stamps ys c x g') (same' v)) in
    subst (λ z. x ∷ xs ≡ z ∷ ys) e (ap (λ zs. x ∷ zs) rest)

-- elements of a falling list with the same stamp are one
pub same_stamp : (stamps xs : List ℕ) (bound v w : ℕ) → Falls stamps bound xs → holds xs v ≡ true → holds xs w ≡ true → get_or stamps v 0 ≡ get_or stamps w 0 → v ≡ w
same_stamp stamps [] bound v w f hv hw e = absurd (grind arith)
same_stamp stamps (x ∷ xs) bound v w f hv hw e = elim (tested (eqb x v)) [
  | inl is_v ↦ elim (tested (eqb x w)) [
    | inl is_w ↦ grind arith
    | inr not_w ↦ let xv : x ≡ v = grind arith in
        let l : get_or stamps w 0 < get_or stamps x 0 = below_first stamps xs bound x w f (in_tail x xs w hw (grind arith)) in
        let l' : get_or stamps w 0 < get_or stamps v 0 = subst (λ z. get_or stamps w 0 < get_or stamps z 0) xv l in
        absurd (omega (arith, l', e))
  ]
  | inr not_v ↦ elim (tested (eqb x w)) [
    | inl is_w ↦ let xw : x ≡ w = grind arith in
        let l : get_or stamps v 0 < get_or stamps x 0 = below_first stamps xs bound x v f (in_tail x xs v hv (grind arith)) in
        let l' : get_or stamps v 0 < get_or stamps w 0 = subst (λ z. get_or stamps v 0 < get_or stamps z 0) xw l in
        absurd (omega (arith, l', e))
    | inr not_w ↦ same_stamp stamps xs (get_or stamps x 0) v w f.1 (in_tail x xs v hv (grind arith)) (in_tail x xs w hw (grind arith)) e
  ]
]

-- AGES

-- the age is how far the stamp is below the newest one
pub record IsAged (stamps : List ℕ) (newest : ℕ) (a : Aged) : Type 0 where
  pub up : a.age + get_or stamps a.var 0 ≡ newest

abbrev pub vars_of : List Aged → List ℕ
vars_of aged = map (λ a. a.var) aged

-- where a variable stands among them
place_of : (aged : List Aged) (v : ℕ) → holds (vars_of aged) v ≡ true → (j : ℕ) × (j < length aged) × ((d : Aged) → (get_or aged j d).var ≡ v)
place_of [] v h = absurd (grind arith)
place_of (a ∷ more) v h = elim (tested (eqb a.var v)) [
  | inl is ↦ (0, omega arith, λ d. grind arith)
  | inr n ↦ let found = place_of more v (in_tail a.var (vars_of more) v h (grind arith)) in (suc found.0, omega (arith, found.1), λ d. found.2 d)
]

-- Variables whose ages do not fall have stamps that fall.
pub falls_aged : (stamps xs : List ℕ) (newest bound c : ℕ) (aged : List Aged) → Falls stamps bound xs → All (IsAged stamps newest) aged → IsNonDecreasingBy (λ a. a.age) aged
    → EachOnce (vars_of aged) → ((v : ℕ) → holds (vars_of aged) v ≡ true → holds xs v ≡ true) → ((v : ℕ) → holds (vars_of aged) v ≡ true → get_or stamps v 0 < c) → Falls stamps c (vars_of aged)
falls_aged stamps xs newest bound c [] f ages rise once_ there below = tt
falls_aged stamps xs newest bound c (a ∷ more) f ages rise once_ there below =
    let behind : (v : ℕ) → holds (vars_of more) v ≡ true → holds (a.var ∷ vars_of more) v ≡ true = λ v h. grind arith in (
      below a.var (first_in a.var (vars_of more)),
      falls_aged stamps xs newest bound (get_or stamps a.var 0) more f (All-tail (IsAged stamps newest) a more ages) (IsNonDecreasingBy-drop (λ x. x.age) 1 (a ∷ more) rise) once_.1 (λ v h. there v (behind v h))
          (λ v h.
          let found = place_of more v h in
          let older : a.age ≤ (get_or more found.0 a).age = rise 0 (suc found.0) a (omega arith) (omega (arith, found.1)) in
          let one : a.age + get_or stamps a.var 0 ≡ newest = (ages 0 a (omega arith)).up in
          let other : (get_or more found.0 a).age + get_or stamps (get_or more found.0 a).var 0 ≡ newest = (ages (suc found.0) a (omega (arith, found.1))).up in
          let other' : (get_or more found.0 a).age + get_or stamps v 0 ≡ newest = subst (λ z. (get_or more found.0 a).age + get_or stamps z 0 ≡ newest) (found.2 a) other in
          let apart : get_or stamps v 0 ≢ get_or stamps a.var 0 = λ e.
          let same : v ≡ a.var = same_stamp stamps xs bound v a.var f (there v (behind v h)) (there a.var (first_in a.var (vars_of more))) e in
          let twice : holds (vars_of more) a.var ≡ true = subst (λ z. holds (vars_of more) z ≡ true) same h in
          absurd (grind (arith, twice, once_.0)) in
          omega (arith, older, one, other', apart)),
    )

abbrev pub aged_by : List ℕ → ℕ → ℕ → Aged
aged_by stamps newest v = record { var = v; age = newest - get_or stamps v 0 }

pub vars_of_aged : (stamps : List ℕ) (newest : ℕ) (vs : List ℕ) → vars_of (map (aged_by stamps newest) vs) ≡ vs
vars_of_aged stamps newest [] = refl
vars_of_aged stamps newest (v ∷ vs) = ap (λ ws. v ∷ ws) (vars_of_aged stamps newest vs)

pub ages_of : (stamps xs : List ℕ) (newest : ℕ) (vs : List ℕ) → Falls stamps (newest + 1) xs → All (λ v. holds xs v ≡ true) vs → All (IsAged stamps newest) (map (aged_by stamps newest) vs)
ages_of stamps xs newest vs f there = All-map (IsAged stamps newest) (aged_by stamps newest) vs
    (λ k d lt. record { up = omega (arith, falls_below stamps xs (newest + 1) (get_or vs k d) f (there k d lt)) })

-- EACH ONCE

distinct_all : (x : ℕ) (xs : List ℕ) → holds xs x ≡ false → AllByRecursion (λ y. eqb x y ≡ false) xs
distinct_all x [] h = tt
distinct_all x (y ∷ ys) h = (grind arith, distinct_all x ys (grind arith))

distinct : (xs : List ℕ) → EachOnce xs → IsDistinct eqb xs
unfolding IsDistinct
distinct [] h = tt
distinct (x ∷ xs) h = (distinct_all x xs h.0, distinct xs h.1)

absent_all : (x : ℕ) (xs : List ℕ) → AllByRecursion (λ y. eqb x y ≡ false) xs → holds xs x ≡ false
absent_all x [] h = refl
absent_all x (y ∷ ys) h = grind (arith, h.0, absent_all x ys h.1)

each_once : (xs : List ℕ) → IsDistinct eqb xs → EachOnce xs
unfolding IsDistinct
each_once [] h = tt
each_once (x ∷ xs) h = (absent_all x xs h.0, each_once xs h.1)

eqb_flips : (x y : ℕ) → eqb x y ≡ eqb y x
eqb_flips x y = grind arith

pub once_permuted : (xs ys : List ℕ) → IsPermutation xs ys → EachOnce xs → EachOnce ys
once_permuted xs ys p h = each_once ys (IsDistinct-IsPermutation eqb eqb_flips xs ys p (distinct xs h))

pub all_holds : (xs vs : List ℕ) → All (λ v. holds xs v ≡ true) vs → (v : ℕ) → holds vs v ≡ true → holds xs v ≡ true
all_holds xs [] there v h = absurd (grind arith)
all_holds xs (w ∷ ws) there v h = elim (tested (eqb w v)) [
  | inl is ↦ let e : w ≡ v = grind arith in subst (λ z. holds xs z ≡ true) e (All-head (λ v. holds xs v ≡ true) w ws there)
  | inr n ↦ all_holds xs ws (All-tail (λ v. holds xs v ≡ true) w ws there) v (in_tail w ws v h (grind arith))
]

within_all : (xs : List ℕ) (p : ℕ → Bool) (v : ℕ) → (p v ≡ true → holds xs v ≡ true) → p v ≡ (holds xs v && p v)
within_all xs p v inside = elim (tested (p v)) [
  | inl h ↦ grind (arith, h, inside h)
  | inr n ↦ grind (arith, n)
]

-- The variables of a queue, sorted by their ages, stand as in the queue.
pub stand_so : (stamps xs vs : List ℕ) (newest : ℕ) (aged : List Aged) → Falls stamps (newest + 1) xs → EachOnce vs → All (λ v. holds xs v ≡ true) vs
    → IsPermutation (map (aged_by stamps newest) vs) aged → IsNonDecreasingBy (λ a. a.age) aged → vars_of aged ≡ filter (holds vs) xs
stand_so stamps xs vs newest aged f once_ there moved rise =
    let names : IsPermutation vs (vars_of aged) = subst (λ ws. IsPermutation ws (vars_of aged)) (vars_of_aged stamps newest vs) (IsPermutation-map (λ a. a.var) (map (aged_by stamps newest) vs) aged moved) in
    let same : (v : ℕ) → holds (vars_of aged) v ≡ holds vs v = λ v. sym (list_any-IsPermutation (λ y. eqb y v) vs (vars_of aged) names) in
    let inside : (v : ℕ) → holds vs v ≡ true → holds xs v ≡ true = all_holds xs vs there in
    let falls : Falls stamps (newest + 1) (vars_of aged) =
    falls_aged stamps xs newest (newest + 1) (newest + 1) aged f (All-permutation (IsAged stamps newest) (map (aged_by stamps newest) vs) aged moved (ages_of stamps xs newest vs f there)) rise
    (once_permuted vs (vars_of aged) names once_) (λ v h. inside v (sym (same v) ∙ h)) (λ v h. falls_below stamps xs (newest + 1) v f (inside v (sym (same v) ∙ h))) in
    falls_unique stamps (vars_of aged) (filter (holds vs) xs) (newest + 1) (newest + 1) falls (falls_filter stamps (newest + 1) (holds vs) xs f)
    (λ v. same v ∙ within_all xs (holds vs) v (inside v) ∙ sym (holds-filter (holds vs) xs v))

-- one more variable with its age
pub aged_more : (stamps : List ℕ) (newest : ℕ) (vs : List ℕ) (i stamp : ℕ) (old new : List Aged) → i < length vs → old ≡ map (aged_by stamps newest) (take i vs)
    → stamp ≡ get_or stamps (get_or vs i 0) 0 → new ≡ old ++ record { var = get_or vs i 0; age = newest - stamp } ∷ [] → new ≡ map (aged_by stamps newest) (take (i + 1) vs)
aged_more stamps newest vs i stamp old new lt was is pushed =
    pushed ∙ ap (λ z. old ++ record { var = get_or vs i 0; age = newest - z } ∷ []) is ∙ ap (λ l. l ++ aged_by stamps newest (get_or vs i 0) ∷ []) was
    ∙ sym (map-append (aged_by stamps newest) (take i vs) (get_or vs i 0 ∷ [])) ∙ ap (map (aged_by stamps newest)) (sym (take_more vs i 0 lt))

-- MOVED UP

without-append : (v : ℕ) (xs ys : List ℕ) → without v (xs ++ ys) ≡ without v xs ++ without v ys
without-append v [] ys = refl
without-append v (x ∷ xs) ys = grind (arith, without-append v xs ys)

without_filter : (v : ℕ) (ps xs : List ℕ) → without v (filter (λ x. not (holds ps x)) xs) ≡ filter (λ x. not (holds (v ∷ ps) x)) xs
without_filter v ps [] = refl
without_filter v ps (x ∷ xs) = grind (arith, without_filter v ps xs, tested (holds ps x), tested (eqb x v))

-- those moved up so far, and behind them the others
abbrev pub led_by : List ℕ → List ℕ → List ℕ
led_by done xs = done ++ filter (λ x. not (holds done x)) xs

pub led_more : (v : ℕ) (done xs : List ℕ) → holds done v ≡ false → v ∷ without v (led_by done xs) ≡ led_by (v ∷ done) xs
led_more v done xs n = ap (λ l. v ∷ l) (without-append v done (filter (λ x. not (holds done x)) xs)
    ∙ ap (λ l. l ++ without v (filter (λ x. not (holds done x)) xs)) (without_absent done v n)
    ∙ ap (λ l. done ++ l) (without_filter v done xs))

absent-filter : (p : ℕ → Bool) (xs : List ℕ) (v : ℕ) → holds xs v ≡ false → holds (filter p xs) v ≡ false
absent-filter p xs v n = holds-filter p xs v ∙ grind (arith, n)

once-filter : (p : ℕ → Bool) (xs : List ℕ) → EachOnce xs → EachOnce (filter p xs)
once-filter p [] h = h
once-filter p (x ∷ xs) h = elim (tested (p x)) [
  | inl kept ↦ rw kept (absent-filter p xs x h.0, once-filter p xs h.1)
  | inr gone ↦ rw gone (once-filter p xs h.1)
]

once_behind : (front : List ℕ) (v : ℕ) (done : List ℕ) → EachOnce (front ++ v ∷ done) → holds done v ≡ false
once_behind [] v done h = h.0
once_behind (x ∷ front) v done h = once_behind front v done h.1

holds_behind : (front : List ℕ) (v : ℕ) (done : List ℕ) → holds (front ++ v ∷ done) v ≡ true
holds_behind [] v done = grind arith
holds_behind (x ∷ front) v done = grind (arith, holds_behind front v done)

filter_same : (p q : ℕ → Bool) (xs : List ℕ) → ((x : ℕ) → holds xs x ≡ true → p x ≡ q x) → filter p xs ≡ filter q xs
filter_same p q [] same = refl
filter_same p q (x ∷ xs) same =
    let rest : filter p xs ≡ filter q xs = filter_same p q xs (λ y h. same y (grind (arith, h))) in
    let here : p x ≡ q x = same x (first_in x xs) in
    grind (arith, rest, here, tested (q x))

-- the next one of those that move up: it stands in the queue, and is not among those behind it
pub record IsNext (vs xs front done : List ℕ) (v : ℕ) : Type 0 where
  pub parts : filter (holds vs) xs ≡ front ++ v ∷ done
  pub inside : holds xs v ≡ true
  pub named : holds vs v ≡ true
  pub apart : holds done v ≡ false

pub next_up : (vs xs front done : List ℕ) (v : ℕ) → EachOnce xs → filter (holds vs) xs ≡ front ++ v ∷ done → IsNext vs xs front done v
next_up vs xs front done v once_ parts =
    let here : holds (filter (holds vs) xs) v ≡ true = ap (λ l. holds l v) parts ∙ holds_behind front v done in
    let both : (holds xs v && holds vs v) ≡ true = sym (holds-filter (holds vs) xs v) ∙ here in
    record {
      parts = parts;
      inside = grind (arith, both);
      named = grind (arith, both);
      apart = once_behind front v done (subst EachOnce parts (once-filter (holds vs) xs once_));
    }

-- all have moved up
pub all_up : (vs xs done : List ℕ) → filter (holds vs) xs ≡ done → led_by done xs ≡ moved_up vs xs
all_up vs xs done is =
    ap (λ l. l ++ filter (λ x. not (holds l x)) xs) (sym is)
    ∙ ap (λ l. filter (holds vs) xs ++ l) (filter_same (λ x. not (holds (filter (holds vs) xs) x)) (λ x. not (holds vs x)) xs
    (λ x h. ap not (holds-filter (holds vs) xs x ∙ grind (arith, h))))

pub passed_up : (old before_ after_ done : List ℕ) (v w : ℕ) → after_ ≡ v ∷ without v before_
    → ((u : ℕ) → holds before_ u ≡ true → (holds done u || holds old u) ≡ true) → holds after_ w ≡ true → (holds (v ∷ done) w || holds old w) ≡ true
passed_up old before_ after_ done v w is known h = elim (tested (eqb v w)) [
  | inl same ↦ grind (arith, same)
  | inr apart ↦
      let inner : holds before_ w ≡ true = holds-without before_ v w (in_tail v (without v before_) w (ap (λ l. holds l w) (sym is) ∙ h) (grind arith)) in
      grind (arith, known w inner)
]

-- what is passed is named or was passed before, where those that moved up are the named ones
pub passed_named : (vs xs done old : List ℕ) (w : ℕ) → filter (holds vs) xs ≡ done → (holds done w || holds old w) ≡ true → (holds vs w || holds old w) ≡ true
passed_named vs xs done old w is h =
    let inner : ((holds xs w && holds vs w) || holds old w) ≡ true = subst (λ b. (b || holds old w) ≡ true) (ap (λ l. holds l w) (sym is) ∙ holds-filter (holds vs) xs w) h in
    grind (arith, inner, tested (holds vs w))

pub led_none : (xs : List ℕ) → led_by [] xs ≡ xs
led_none [] = refl
led_none (x ∷ xs) = ap (λ l. x ∷ l) (led_none xs)

pub none_left : (p : ℕ → Bool) (xs : List ℕ) (rest : List Aged) (done : List ℕ) → filter p xs ≡ vars_of rest ++ done → length rest ≡ 0 → filter p xs ≡ done
none_left p xs [] done is n = is
none_left p xs (a ∷ more) done is n = absurd (omega (arith, n))

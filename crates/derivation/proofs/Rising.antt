-- Variables that rise: one more behind them, and those in front.
use Rattle.std.proofs.Common.{◌≡◌, ℕ, ◌+◌, ◌-◌, ◌/◌, ◌<◌, Some, List, [], ◌∷◌, ◌++◌, map, length, get_or, slice_get, sym, ap, subst, inl, inr, ◌∙◌, arith, length-append}
use Rattle.std.specs.List.Sorted.{IsStrictlyIncreasing}
use Rattle.std.proofs.lemmas.Bool.{cases_lt}
use Rattle.std.proofs.lemmas.List.{get_or_append_left, get_or_push, map-append, append_assoc, length-map}
use Rattle.std.proofs.lemmas.Option.{get_or_from_slice_get}
use Rattle.std.proofs.Math.ListN.{get_or-map}

rising_push : (xs : List ℕ) (y : ℕ) → IsStrictlyIncreasing xs → (0 < length xs → get_or xs (length xs - 1) 0 < y) → IsStrictlyIncreasing (xs ++ y ∷ [])
rising_push xs y rising last k within =
    elim (cases_lt (k + 1) (length xs)) [
      | inl before ↦
          let here : get_or (xs ++ y ∷ []) k 0 ≡ get_or xs k 0 = get_or_append_left xs (y ∷ []) 0 k (omega arith) in
          let next : get_or (xs ++ y ∷ []) (k + 1) 0 ≡ get_or xs (k + 1) 0 = get_or_append_left xs (y ∷ []) 0 (k + 1) before in
          omega (arith, here, next, rising k before)
      | inr at ↦
          let long : length (xs ++ y ∷ []) ≡ length xs + 1 = length-append xs (y ∷ []) in
          let here : get_or (xs ++ y ∷ []) k 0 ≡ get_or xs k 0 = get_or_append_left xs (y ∷ []) 0 k (omega arith) in
          let place : k ≡ length xs - 1 = omega arith in
          let next : get_or (xs ++ y ∷ []) (k + 1) 0 ≡ y = get_or_push xs y 0 (k + 1) (omega arith) in
          omega (arith, here, next, ap (λ i. get_or xs i 0) place, last (omega arith))
    ]

rising_last : (xs : List ℕ) (y : ℕ) → IsStrictlyIncreasing (xs ++ y ∷ []) → 0 < length xs → get_or xs (length xs - 1) 0 < y
rising_last xs y rising some =
    let long : length (xs ++ y ∷ []) ≡ length xs + 1 = length-append xs (y ∷ []) in
    let here : get_or (xs ++ y ∷ []) (length xs - 1) 0 ≡ get_or xs (length xs - 1) 0 = get_or_append_left xs (y ∷ []) 0 (length xs - 1) (omega arith) in
    let next : get_or (xs ++ y ∷ []) (length xs - 1 + 1) 0 ≡ y = get_or_push xs y 0 (length xs - 1 + 1) (omega arith) in
    omega (arith, here, next, rising (length xs - 1) (omega arith))

rising_front : (xs ys : List ℕ) → IsStrictlyIncreasing (xs ++ ys) → IsStrictlyIncreasing xs
rising_front xs ys rising k within =
    let here : get_or (xs ++ ys) k 0 ≡ get_or xs k 0 = get_or_append_left xs ys 0 k (omega arith) in
    let next : get_or (xs ++ ys) (k + 1) 0 ≡ get_or xs (k + 1) 0 = get_or_append_left xs ys 0 (k + 1) within in
    omega (arith, here, next, rising k (omega (arith, length-append xs ys, within)))

-- the variables of literals
abbrev pub vars_of : List ℕ → List ℕ
vars_of lits = map (λ lit. lit / 2) lits

vars_push : (lits : List ℕ) (lit : ℕ) → vars_of (lits ++ lit ∷ []) ≡ vars_of lits ++ (lit / 2) ∷ []
vars_push lits lit = map-append (λ x. x / 2) lits (lit ∷ [])

last_var : (lits : List ℕ) (before : ℕ) → slice_get lits (length lits - 1) ≡ Some before → get_or (vars_of lits) (length (vars_of lits) - 1) 0 ≡ before / 2
last_var lits before is =
    ap (λ n. get_or (vars_of lits) (n - 1) 0) (length-map lits (λ x. x / 2))
    ∙ get_or-map (λ x. x / 2) lits (length lits - 1) 0
    ∙ ap (λ x. x / 2) (get_or_from_slice_get lits (length lits - 1) before 0 is)

-- a literal behind others rises where its variable is above that of the last one
pub rising_more : (lits : List ℕ) (before lit : ℕ) → slice_get lits (length lits - 1) ≡ Some before → IsStrictlyIncreasing (vars_of lits) → before / 2 < lit / 2
    → IsStrictlyIncreasing (vars_of (lits ++ lit ∷ []))
rising_more lits before lit is rising above =
    subst IsStrictlyIncreasing (sym (vars_push lits lit)) (rising_push (vars_of lits) (lit / 2) rising (λ _. omega (arith, last_var lits before is)))

some_there : (lits : List ℕ) (place before : ℕ) → slice_get lits place ≡ Some before → 0 < length lits
some_there [] place before is = cc
some_there (l ∷ ls) place before is = omega arith

pub rising_above : (lits : List ℕ) (before lit : ℕ) → slice_get lits (length lits - 1) ≡ Some before → IsStrictlyIncreasing (vars_of (lits ++ lit ∷ []))
    → before / 2 < lit / 2
rising_above lits before lit is rising =
    let some : 0 < length lits = some_there lits (length lits - 1) before is in
    let h : get_or (vars_of lits) (length (vars_of lits) - 1) 0 < lit / 2 =
    rising_last (vars_of lits) (lit / 2) (subst IsStrictlyIncreasing (vars_push lits lit) rising) (omega (arith, length-map lits (λ x. x / 2))) in
    omega (arith, last_var lits before is)

-- literals in front of others that rise
pub rising_to : (lits : List ℕ) (lit : ℕ) (more : List ℕ) → IsStrictlyIncreasing (vars_of (lits ++ lit ∷ more)) → IsStrictlyIncreasing (vars_of (lits ++ lit ∷ []))
rising_to lits lit more rising =
    rising_front (vars_of (lits ++ lit ∷ [])) (vars_of more)
    (subst IsStrictlyIncreasing (ap vars_of (sym (append_assoc lits (lit ∷ []) more)) ∙ map-append (λ x. x / 2) (lits ++ lit ∷ []) more) rising)

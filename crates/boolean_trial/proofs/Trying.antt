-- The trial of all lists that begin alike.
use Rattle.std.proofs.Common.{◌≡◌, ℕ, ◌+◌, ◌-◌, ◌<◌, Bool, true, false, List, [], ◌∷◌, ◌++◌, length, take, Option, None, refl, sym, ap, ◌∙◌, arith, append-nil, append_assoc, length-take-le}
use Rattle.std.specs.Prelude.{slice_set}
use Rattle.std.proofs.lemmas.List.{length-set, take_more_set, take-append-le, take-take, take_all}
use Rattle.boolean_trial.specs.Trial.{NoneFails}

-- a list that begins with one element more begins as before
front_kept : (xs front : List Bool) (b : Bool) (at : ℕ) → at < length xs → length front ≡ at → take (at + 1) xs ≡ front ++ b ∷ [] → take at xs ≡ front
front_kept xs front b at within len is =
    sym (take-take at (at + 1) xs (omega arith)) ∙ ap (take at) is ∙ take-append-le at front (b ∷ []) (omega arith) ∙ take_all at front (omega arith)

pub kept_set : (xs ys : List Bool) (b : Bool) (at : ℕ) → at < length xs → length ys ≡ length xs → take (at + 1) ys ≡ take (at + 1) (slice_set xs at b) → take at ys ≡ take at xs
kept_set xs ys b at within same is =
    front_kept ys (take at xs) b at (omega arith) (length-take-le at xs (omega arith)) (is ∙ take_more_set xs at b within)

empty : (more : List Bool) → length more ≡ 0 → more ≡ []
empty [] len = refl
empty (b ∷ more) len = absurd (omega arith)

-- nothing stands behind the whole list
pub none_done : (fails : List Bool → Option ℕ) (xs : List Bool) (at : ℕ) → at ≡ length xs → fails xs ≡ None → NoneFails fails (take at xs) (length xs - at)
none_done fails xs at whole fails_not =
    record {
      none = λ more len.
          let all : take at xs ≡ xs = take_all at xs (omega arith) in
          let nothing : more ≡ [] = empty more (omega arith) in
          ap fails (ap (λ l. take at xs ++ l) nothing ∙ append-nil (take at xs) ∙ all) ∙ fails_not;
    }

behind : (fails : List Bool → Option ℕ) (front : List Bool) (b : Bool) (count : ℕ) (more : List Bool) → NoneFails fails (front ++ b ∷ []) count → length more ≡ count
    → fails (front ++ b ∷ more) ≡ None
behind fails front b count more none len = ap fails (sym (append_assoc front (b ∷ []) more)) ∙ none.none more len

either_fails_not : (fails : List Bool → Option ℕ) (front : List Bool) (count : ℕ) → NoneFails fails (front ++ false ∷ []) count → NoneFails fails (front ++ true ∷ []) count
    → (more : List Bool) → length more ≡ count + 1 → fails (front ++ more) ≡ None
either_fails_not fails front count low high [] len = absurd (omega arith)
either_fails_not fails front count low high (false ∷ more) len = behind fails front false count more low (omega arith)
either_fails_not fails front count low high (true ∷ more) len = behind fails front true count more high (omega arith)

-- neither with `false` at this place nor with `true`
pub none_of_both : (fails : List Bool → Option ℕ) (xs ys : List Bool) (at : ℕ) → at < length xs → length ys ≡ length xs
    → NoneFails fails (take (at + 1) (slice_set xs at false)) (length (slice_set xs at false) - (at + 1)) → take (at + 1) ys ≡ take (at + 1) (slice_set xs at false)
    → NoneFails fails (take (at + 1) (slice_set ys at true)) (length (slice_set ys at true) - (at + 1)) → NoneFails fails (take at xs) (length xs - at)
none_of_both fails xs ys at within same low kept high =
    let front : take at ys ≡ take at xs = kept_set xs ys false at within same kept in
    let room : at < length ys = omega arith in
    let count : ℕ = length xs - (at + 1) in
    let low_too : NoneFails fails (take at xs ++ false ∷ []) count = rw (take_more_set xs at false within, length-set xs at false) at low in
    let high_too : NoneFails fails (take at xs ++ true ∷ []) count = rw (take_more_set ys at true room, front, length-set ys at true, same) at high in
    record { none = λ more len. either_fails_not fails (take at xs) count low_too high_too more (omega arith) }

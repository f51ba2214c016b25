-- The first place in a list that was mapped, and in one that grew.
use Rattle.std.proofs.Common.{◌≡◌, ℕ, ◌+◌, ◌≤◌, ◌==◌, Bool, true, false, List, [], ◌∷◌, ◌++◌, cond, length, None, Some, refl, ap, arith, ltb}
use Rattle.std.specs.Prelude.{map, position, not}
use Rattle.std.specs.List.{prefix_len, position_or_len}
use Rattle.std.specs.Option.{option_or}
use Rattle.std.proofs.lemmas.Bool.Decides.{nat_tests}
use Rattle.std.proofs.lemmas.List.{length-map, length_push}
use Rattle.std.proofs.lemmas.List.Folds.{position_or_len_push}
use Rattle.std.proofs.lemmas.List.Sums.{prefix_len-le-length}

prefix_len-map : {X Y : Type 0} (p : Y → Bool) (f : X → Y) (xs : List X) → prefix_len p (map f xs) ≡ prefix_len (λ x. p (f x)) xs
prefix_len-map p f [] = refl
prefix_len-map p f (x ∷ xs) = ap (λ n. cond (p (f x)) (1 + n) 0) (prefix_len-map p f xs)

pub position-map : {X Y : Type 0} (p : Y → Bool) (f : X → Y) (xs : List X) → position p (map f xs) ≡ position (λ x. p (f x)) xs
position-map p f xs = rw (prefix_len-map (λ y. not (p y)) f xs, length-map xs f) refl

pushed : (n l : ℕ) (b : Bool) → n ≤ l → cond (ltb (cond (n == l) (l + cond b 0 1) n) (l + 1)) (Some (cond (n == l) (l + cond b 0 1) n)) None ≡ option_or (cond (ltb n l) (Some n) None) (cond b (Some l) None)
pushed n l true within = grind (arith, nat_tests)
pushed n l false within = grind (arith, nat_tests)

pub position-push : {X : Type 0} (p : X → Bool) (xs : List X) (y : X) → position p (xs ++ y ∷ []) ≡ option_or (position p xs) (cond (p y) (Some (length xs)) None)
position-push p xs y = rw (position_or_len_push p xs y, length_push xs y) (pushed (position_or_len p xs) (length xs) (p y) (prefix_len-le-length (λ x. not (p x)) xs))

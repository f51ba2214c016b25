-- Places in a list, and lists that grow by what may be there.
use Rattle.std.proofs.Common.{◌≡◌, ℕ, ◌+◌, ◌<◌, Bool, List, [], ◌∷◌, ◌++◌, length, Option, Some, None, refl, ◌∙◌, ap, arith, take, get_or}
use Rattle.std.specs.Prelude.{filter_map, position, option_to_list}
use Rattle.std.specs.List.{position_or_len, cons_option}
use Rattle.std.proofs.lemmas.Grind.{common_steps}
use Rattle.std.proofs.lemmas.List.{take_more}
use Rattle.std.proofs.lemmas.List.Elements.{filter_map-append}
use Rattle.std.proofs.lemmas.List.Sums.{prefix_len-le-length}

-- the first place, where there is one, else the length
abbrev pub place_or : {A : Type 0} → Option ℕ → List A → ℕ
place_or (Some i) xs = i
place_or None xs = length xs

pub place_is : {A : Type 0} (p : A → Bool) (xs : List A) → position_or_len p xs ≡ place_or (position p xs) xs
place_is p xs = grind (arith, common_steps, prefix_len-le-length)

single : {A : Type 0} (o : Option A) → cons_option o [] ≡ option_to_list o
single (Some x) = refl
single None = refl

pub filter_map_more : {A B : Type 0} (h : A → Option B) (xs : List A) (i : ℕ) (d : A) → i < length xs → filter_map h (take (i + 1) xs) ≡ filter_map h (take i xs) ++ option_to_list (h (get_or xs i d))
filter_map_more h xs i d within =
    ap (filter_map h) (take_more xs i d within) ∙ filter_map-append h (take i xs) (get_or xs i d ∷ []) ∙ ap (λ ys. filter_map h (take i xs) ++ ys) (single (h (get_or xs i d)))

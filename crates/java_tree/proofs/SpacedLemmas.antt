-- Pieces with a space behind each, without the last one, are parted by a space.
use Rattle.std.proofs.Common.{◌≡◌, ℕ, ◌-◌, List, [], ◌∷◌, ◌++◌, length, take, refl, ap, ◌∙◌, arith, append_assoc}
use Rattle.std.proofs.lemmas.Grind.{common_steps}
use Rattle.std.specs.List.{join_with_byte}
use Rattle.java_tree.specs.Spaced.{spaced}

-- some pieces
pub spaced_join : (p : List ℕ) (ps : List (List ℕ)) → spaced (p ∷ ps) ≡ join_with_byte 32 (p ∷ ps) ++ 32 ∷ []
spaced_join p [] = grind (arith, common_steps)
spaced_join p (q ∷ ps) = ap (λ t. (p ++ 32 ∷ []) ++ t) (spaced_join q ps) ∙ simp append_assoc

pub joined : (pieces : List (List ℕ)) → take (length (spaced pieces) - 1) (spaced pieces) ≡ join_with_byte 32 pieces
joined [] = refl
joined (p ∷ ps) = rw spaced_join (last_off (join_with_byte 32 (p ∷ ps)))
  where
    last_off : (xs : List ℕ) → take (length (xs ++ 32 ∷ []) - 1) (xs ++ 32 ∷ []) ≡ xs
    last_off xs = grind (arith, common_steps)

-- Lists of bytes, cut at a byte.
use Rattle.std.specs.Prelude.{◌≡◌, ℕ, ◌==◌, Bool, not, List, ◌∷◌, ◌++◌, IsTrue}
use Rattle.std.specs.List.{list_all}

-- whether the byte is none of these
abbrev pub lacks : ℕ → List ℕ → Bool
lacks byte bytes = list_all (λ b. not (b == byte)) bytes

-- The bytes are these two parts, round the first such byte.
pub record IsCut (byte : ℕ) (bytes front behind : List ℕ) : Type 0 where
  pub parts : bytes ≡ front ++ byte ∷ behind
  pub first : IsTrue (lacks byte front)

-- What the text of a file is found to be: too long, faulty, or of a value. It is one of them.
use Rattle.std.proofs.Common.{◌≡◌, ℕ, ◌<◌, ◌≤◌, List, length, Option, Some, IfSome, refl, ap, subst, arith}

pub data Found (V E : Type 0) : Type 0 where
  Long : Found V E
  Bad : E → Found V E
  Good : V → Found V E

abbrev pub Finds : {V E : Type 0} → (limit : ℕ) → (Is : V → Type 0) → (IsNo : E → Type 0) → (bytes : List ℕ) → Found V E → Type 0
Finds limit Is IsNo bytes Long = limit < length bytes
Finds limit Is IsNo bytes (Bad e) = IsNo e
Finds limit Is IsNo bytes (Good v) = Is v

-- bytes have one value, or one fault, and neither where they are too long
pub record AreTold {V E : Type 0} (limit : ℕ) (Is : V → Type 0) (IsNo : E → Type 0) (bytes : List ℕ) : Type 0 where
  pub is_short : (v : V) → Is v → length bytes ≤ limit
  pub no_short : (e : E) → IsNo e → length bytes ≤ limit
  pub apart : (v : V) (e : E) → Is v → IsNo e → ⊥
  pub one_value : (v w : V) → Is v → Is w → v ≡ w
  pub one_fault : (d e : E) → IsNo d → IsNo e → d ≡ e

pub one_found : {V E : Type 0} (limit : ℕ) (Is : V → Type 0) (IsNo : E → Type 0) (bytes : List ℕ) → AreTold limit Is IsNo bytes → (a b : Found V E)
    → Finds limit Is IsNo bytes a → Finds limit Is IsNo bytes b → a ≡ b
one_found limit Is IsNo bytes told Long Long x y = refl
one_found limit Is IsNo bytes told Long (Bad e) x y = absurd (omega (arith, x, told.no_short e y))
one_found limit Is IsNo bytes told Long (Good v) x y = absurd (omega (arith, x, told.is_short v y))
one_found limit Is IsNo bytes told (Bad d) Long x y = absurd (omega (arith, y, told.no_short d x))
one_found limit Is IsNo bytes told (Bad d) (Bad e) x y = ap Bad (told.one_fault d e x y)
one_found limit Is IsNo bytes told (Bad d) (Good v) x y = absurd (told.apart v d y x)
one_found limit Is IsNo bytes told (Good v) Long x y = absurd (omega (arith, y, told.is_short v x))
one_found limit Is IsNo bytes told (Good v) (Bad e) x y = absurd (told.apart v e x y)
one_found limit Is IsNo bytes told (Good v) (Good w) x y = ap Good (told.one_value v w x y)

-- what is said of bytes that are told
pub at_told : (P : List ℕ → Type 0) (o : Option (List ℕ)) (bytes : List ℕ) → o ≡ Some bytes → IfSome o P → P bytes
at_told P o bytes is h = by_subst (subst (λ (x : Option (List ℕ)). IfSome x P) is h)
  where
    by_subst : IfSome (Some bytes) P → P bytes
    by_subst x = x

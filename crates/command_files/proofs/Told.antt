-- What is said of contents, where they are told.
use Rattle.std.proofs.Common.{◌≡◌, ℕ, List, Option, Some, None, IfSome, subst}

-- what follows of told bytes
pub if_told_more : {A B : List ℕ → Type 0} (told : Option (List ℕ)) → ((bytes : List ℕ) → A bytes → B bytes) → IfSome told A → IfSome told B
if_told_more None more holds = tt
if_told_more (Some bytes) more holds = more bytes holds

-- what holds of these bytes holds of what is told, if it is
pub lifted : (P : List ℕ → Type 0) (bytes : List ℕ) (told : Option (List ℕ)) → IfSome told (λ xs. bytes ≡ xs) → P bytes → IfSome told P
lifted P bytes told same holds = if_told_more told (λ xs is. subst P is holds) same

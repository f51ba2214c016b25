-- How the machine goes on behind a part that was read.
use Rattle.std.specs.Prelude.{◌≡◌, ℕ, Bool, true, false, List, [], ◌∷◌, Option, Some, None}
use Rattle.java_lex.specs.declared.token.Token.{Token}
use Rattle.reading_core.specs.Read.{Read, Got, Bad, Deep}
use Rattle.reading_core.specs.Deeper.{Level}
use Rattle.reading_core.specs.Machine.{Test, Act, Step, On, OnOpen, Stop, Next, Fine, BadAt, DeepAt, run}

-- go_on: what happens behind what was read
abbrev pub follow : {A : Type 0} → Read A → (A → List Token → Next) → Next
follow (Got a rest) go_on = go_on a rest
follow (Bad []) go_on = Fine false
follow (Bad (t ∷ ts)) go_on = BadAt (t ∷ ts)
follow (Deep ts) go_on = DeepAt ts

-- how the machine goes on behind the token t, with ts behind it
abbrev pub behind : {W : Type 0} → (W → Token → Act W) → (W → Bool) → Test → Token → List Token → Step W → Next
behind react ready may t ts s =
    elim s [ On more ↦ run react ready may ts more | OnOpen k more ↦ elim (may k ts) [ true ↦ run react ready may ts more | false ↦ DeepAt (t ∷ ts) ] | Stop ↦ BadAt (t ∷ ts) ]

-- What may be read one level deeper may be read at the level k, by the test, and its readers are such.
abbrev pub Allows : {R : Type 0} → (R → Type 0) → Test → ℕ → Option (Level R) → Type 0
Allows P may k None = (ts : List Token) → may k ts ≡ false
Allows P may k (Some level) = ((ts : List Token) → level.may ts ≡ may k ts) × P level.readers

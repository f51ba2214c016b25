-- What does not go on with an expression.
use Rattle.std.specs.Prelude.{◌≡◌, ℕ, ◌<◌, Bool, true, false, List, [], ◌∷◌}
use Rattle.java_lex.specs.declared.token.Token.{Token}
use Rattle.reading_core.specs.Read.{is_open}
use Rattle.expression_reading.specs.declared.operators.Link.TheVariants.{Ends}
use Rattle.expression_reading.specs.Operators.{link_of}
use Rattle.expression_reading.specs.Reading.{is_dot}

-- in code a `(` behind a name would call it
abbrev pub NotCalled : Bool → Token → Type 0
NotCalled false t = is_open false t ≡ false
NotCalled true t = Unit {0}

-- Nothing that goes on with an operand of the number n comes first: no operator of its chains, no `.`, no `(` in code.
abbrev pub IsFree : Bool → ℕ → List Token → Type 0
IsFree side n [] = Unit {0}
IsFree side n (t ∷ ts) = ((m : ℕ) → m < n → link_of side m t ≡ Ends) × (is_dot side t ≡ false) × NotCalled side t

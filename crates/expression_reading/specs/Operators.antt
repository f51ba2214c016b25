-- The operators of expressions, as a chain finds them.
use Rattle.std.specs.Prelude.{ℕ, suc, Bool, true, false, ◌==◌, Option, Some, None}
use Rattle.java_lex.specs.declared.spelling.Terminal.{Terminal}
use Rattle.java_lex.specs.declared.spelling.Terminal.TheVariants as terminal
use Rattle.java_lex.specs.declared.token.Token.{Token}
use Rattle.java_tree.specs.declared.expressions.Sign.{Sign}
use Rattle.java_tree.specs.declared.expressions.Sign.TheVariants.{Add, Sub, Mul, Eq, Ne, Lt, Le, Gt, Ge, And, Or, Implies, Iff}
use Rattle.java_tree.specs.Expressions.{tier_of}
use Rattle.reading_core.specs.Read.{at_side}
use Rattle.expression_reading.specs.declared.operators.Link.{Link}
use Rattle.expression_reading.specs.declared.operators.Link.TheVariants.{Ends, Left, Right}

-- the operator that a token is
abbrev pub sign_of : Terminal → Option Sign
sign_of terminal.Times = Some Mul
sign_of terminal.Plus = Some Add
sign_of terminal.Minus = Some Sub
sign_of terminal.Less = Some Lt
sign_of terminal.AtMost = Some Le
sign_of terminal.Greater = Some Gt
sign_of terminal.AtLeast = Some Ge
sign_of terminal.Equal = Some Eq
sign_of terminal.NotEqual = Some Ne
sign_of terminal.And = Some And
sign_of terminal.Or = Some Or
sign_of terminal.Implies = Some Implies
sign_of terminal.Iff = Some Iff
sign_of x = None

-- how an operand goes on by the operator
abbrev pub link_by : Sign → Link
link_by Mul = Left Mul
link_by Add = Left Add
link_by Sub = Left Sub
link_by Lt = Left Lt
link_by Le = Left Le
link_by Gt = Left Gt
link_by Ge = Left Ge
link_by Eq = Left Eq
link_by Ne = Left Ne
link_by And = Left And
link_by Or = Left Or
link_by Implies = Right
link_by Iff = Left Iff

-- Operands are numbered from 0, the tier of Unary, one less than their tiers: the operators between operands of the
-- number n have the tier n + 2.
abbrev pub link_at : ℕ → Option Sign → Link
link_at n None = Ends
link_at n (Some s) = elim (tier_of s == suc (suc n)) [ true ↦ link_by s | false ↦ Ends ]

abbrev pub link_of : Bool → ℕ → Token → Link
link_of side n t = link_at n (sign_of (at_side side t))

-- the number of a whole expression: of code, and of a clause
abbrev pub top : Bool → ℕ
top false = 6
top true = 8

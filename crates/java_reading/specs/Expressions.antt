-- What begins an expression, and what may go on with one.
use Rattle.std.specs.Prelude.{Bool, true, false, Option}
use Rattle.java_lex.specs.declared.spelling.Terminal.{Terminal}
use Rattle.java_lex.specs.declared.spelling.Terminal.TheVariants as terminal
use Rattle.java_lex.specs.declared.token.Token.{Token}
use Rattle.java_reading.specs.Tokens.{at_head}

-- operators between two operands, `.`, and the `(` of a call
abbrev pub goes_on : Terminal → Bool
goes_on terminal.Equal = true
goes_on terminal.NotEqual = true
goes_on terminal.Less = true
goes_on terminal.AtMost = true
goes_on terminal.Greater = true
goes_on terminal.AtLeast = true
goes_on terminal.Plus = true
goes_on terminal.Minus = true
goes_on terminal.Times = true
goes_on terminal.And = true
goes_on terminal.Or = true
goes_on terminal.Implies = true
goes_on terminal.Iff = true
goes_on terminal.Dot = true
goes_on terminal.OpenParen = true
goes_on x = false

abbrev pub extends : Bool → Option Token → Bool
extends side h = goes_on (at_head side h)

abbrev pub starts : Terminal → Bool
starts terminal.Not = true
starts terminal.Minus = true
starts terminal.Number = true
starts terminal.True = true
starts terminal.False = true
starts terminal.Null = true
starts terminal.This = true
starts terminal.Name = true
starts terminal.New = true
starts terminal.OpenParen = true
starts terminal.ResultValue = true
starts terminal.Old = true
starts terminal.Reach = true
starts x = false

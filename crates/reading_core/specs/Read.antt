-- What reading a part of a text gives: a value and the tokens behind it, or the tokens from the one at fault on.
use Rattle.std.specs.Prelude.{ℕ, Bool, true, false, List, [], ◌∷◌}
use Rattle.java_lex.specs.declared.spelling.Terminal.{Terminal}
use Rattle.java_lex.specs.declared.spelling.Terminal.TheVariants as terminal
use Rattle.java_lex.specs.declared.token.Token.{Token}
use Rattle.java_lex.specs.declared.token.TokenKind.{TokenKind}
use Rattle.java_lex.specs.declared.token.TokenKind.TheVariants.{Word, Number, Quoted, Slashed, Symbol, End}
use Rattle.java_tree.specs.Phrases.{Letter, letter}

pub data Read (A : Type 0) : Type 0 where
  -- this, and the tokens behind it
  Got : A → List Token → Read A
  -- the tokens from the first on with which no such part begins
  Bad : List Token → Read A
  -- the tokens from the one on that opens a level too many
  Deep : List Token → Read A

infixl 20 ◌>>=◌
-- one part and then another
abbrev pub ◌>>=◌ : {A B : Type 0} → Read A → (A → List Token → Read B) → Read B
◌>>=◌ (Got a rest) next = next a rest
◌>>=◌ (Bad rest) next = Bad rest
◌>>=◌ (Deep rest) next = Deep rest

-- a fact of what was read
abbrev pub OnGot : {A : Type 0} → (A → List Token → Type 0) → Read A → Type 0
OnGot P (Got a rest) = P a rest
OnGot P (Bad rest) = Unit {0}
OnGot P (Deep rest) = Unit {0}

-- what a token is to a part whose tokens stand in annotations (true) or outside; the others stand in none
abbrev pub on : Bool → Letter → Terminal
on false (false, x) = x
on true (true, x) = x
on false (true, x) = terminal.Reserved
on true (false, x) = terminal.Reserved

abbrev pub at_side : Bool → Token → Terminal
at_side side t = on side (letter t)

-- one token of this kind
abbrev pub expect : (Token → Bool) → List Token → Read Token
expect is [] = Bad []
expect is (t ∷ ts) = elim (is t) [ true ↦ Got t ts | false ↦ Bad (t ∷ ts) ]

-- the number that a token is
abbrev pub number_of : TokenKind → ℕ
number_of (Number n) = n
number_of (Word bytes) = 0
number_of Quoted = 0
number_of (Slashed bytes) = 0
number_of (Symbol bytes) = 0
number_of End = 0

-- TOKENS OF ONE KIND

abbrev pub is_name_terminal : Terminal → Bool
is_name_terminal terminal.Name = true
is_name_terminal x = false

abbrev pub is_open_terminal : Terminal → Bool
is_open_terminal terminal.OpenParen = true
is_open_terminal x = false

abbrev pub is_close_terminal : Terminal → Bool
is_close_terminal terminal.CloseParen = true
is_close_terminal x = false

abbrev pub is_comma_terminal : Terminal → Bool
is_comma_terminal terminal.Comma = true
is_comma_terminal x = false

abbrev pub is_semicolon_terminal : Terminal → Bool
is_semicolon_terminal terminal.Semicolon = true
is_semicolon_terminal x = false

abbrev pub is_name : Bool → Token → Bool
is_name side t = is_name_terminal (at_side side t)

abbrev pub is_open : Bool → Token → Bool
is_open side t = is_open_terminal (at_side side t)

abbrev pub is_close : Bool → Token → Bool
is_close side t = is_close_terminal (at_side side t)

abbrev pub is_comma : Bool → Token → Bool
is_comma side t = is_comma_terminal (at_side side t)

abbrev pub is_semicolon : Bool → Token → Bool
is_semicolon side t = is_semicolon_terminal (at_side side t)

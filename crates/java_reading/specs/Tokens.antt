-- The tokens that stand at one place of a phrase alone.
use Rattle.std.specs.Prelude.{ℕ, Bool, true, false, Option, Some, None}
use Rattle.java_lex.specs.declared.spelling.Terminal.{Terminal}
use Rattle.java_lex.specs.declared.spelling.Terminal.TheVariants as terminal
use Rattle.java_lex.specs.declared.token.Token.{Token}
use Rattle.java_tree.specs.declared.names.Ident.{Ident}
use Rattle.java_tree.specs.Phrases.{ident_of}
use Rattle.reading_core.specs.Read.{at_side}
use Rattle.java_reading.specs.Readers.{Reader, taken}
use Rattle.java_reading.specs.declared.marks.Fixed.{Fixed}
use Rattle.java_reading.specs.declared.marks.Fixed.TheVariants.{OpenBrace, CloseBrace, OpenParen, CloseParen, Semicolon, Comma, Dot, Assign, If, Else, While, Return, Class, Package, Import, Static, Times, Requires, Ensures, Invariant, NormalBehavior, End}

abbrev pub is_fixed : Fixed → Terminal → Bool
is_fixed OpenBrace terminal.OpenBrace = true
is_fixed CloseBrace terminal.CloseBrace = true
is_fixed OpenParen terminal.OpenParen = true
is_fixed CloseParen terminal.CloseParen = true
is_fixed Semicolon terminal.Semicolon = true
is_fixed Comma terminal.Comma = true
is_fixed Dot terminal.Dot = true
is_fixed Assign terminal.Assign = true
is_fixed If terminal.If = true
is_fixed Else terminal.Else = true
is_fixed While terminal.While = true
is_fixed Return terminal.Return = true
is_fixed Class terminal.Class = true
is_fixed Package terminal.Package = true
is_fixed Import terminal.Import = true
is_fixed Static terminal.Static = true
is_fixed Times terminal.Times = true
is_fixed Requires terminal.Requires = true
is_fixed Ensures terminal.Ensures = true
is_fixed Invariant terminal.Invariant = true
is_fixed NormalBehavior terminal.NormalBehavior = true
is_fixed End terminal.End = true
is_fixed x y = false

abbrev pub terminal_of_fixed : Fixed → Terminal
terminal_of_fixed OpenBrace = terminal.OpenBrace
terminal_of_fixed CloseBrace = terminal.CloseBrace
terminal_of_fixed OpenParen = terminal.OpenParen
terminal_of_fixed CloseParen = terminal.CloseParen
terminal_of_fixed Semicolon = terminal.Semicolon
terminal_of_fixed Comma = terminal.Comma
terminal_of_fixed Dot = terminal.Dot
terminal_of_fixed Assign = terminal.Assign
terminal_of_fixed If = terminal.If
terminal_of_fixed Else = terminal.Else
terminal_of_fixed While = terminal.While
terminal_of_fixed Return = terminal.Return
terminal_of_fixed Class = terminal.Class
terminal_of_fixed Package = terminal.Package
terminal_of_fixed Import = terminal.Import
terminal_of_fixed Static = terminal.Static
terminal_of_fixed Times = terminal.Times
terminal_of_fixed Requires = terminal.Requires
terminal_of_fixed Ensures = terminal.Ensures
terminal_of_fixed Invariant = terminal.Invariant
terminal_of_fixed NormalBehavior = terminal.NormalBehavior
terminal_of_fixed End = terminal.End

-- the token is this one, in an annotation (true) or outside
abbrev pub stands : Bool → Fixed → Token → Bool
stands side x t = is_fixed x (at_side side t)

abbrev pub is_name : Terminal → Bool
is_name terminal.Name = true
is_name x = false

-- one token that is this one
abbrev pub fixed : Bool → Fixed → Reader (Unit {0})
fixed side x = taken (stands side x) (λ t. tt)

-- the same, and its place
abbrev pub fixed_at : Bool → Fixed → Reader ℕ
fixed_at side x = taken (stands side x) (λ t. t.from)

-- one token that is a name
abbrev pub name_in : Bool → Reader Ident
name_in side = taken (λ t. is_name (at_side side t)) ident_of

-- what the first token is, in an annotation (true) or outside
abbrev pub at_head : Bool → Option Token → Terminal
at_head side None = terminal.Reserved
at_head side (Some t) = at_side side t

-- the first token is this one
abbrev pub next_is : Bool → Fixed → Option Token → Bool
next_is side x h = is_fixed x (at_head side h)

-- the first token is a name
abbrev pub next_is_name : Option Token → Bool
next_is_name h = is_name (at_head false h)

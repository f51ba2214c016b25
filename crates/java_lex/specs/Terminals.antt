-- What a token is to the grammar.
use Rattle.std.specs.Prelude.{Bool, true, List, map, unwrap_or}
use Rattle.java_lex.specs.declared.spelling.Absent.TheVariants.{Text, Jml}
use Rattle.java_lex.specs.declared.spelling.Terminal.{Terminal}
use Rattle.java_lex.specs.declared.spelling.Terminal.TheVariants as terminal
use Rattle.java_lex.specs.declared.tables.TheConstants.{WORDS, SLASHED}
use Rattle.java_lex.specs.declared.token.Token.{Token}
use Rattle.java_lex.specs.declared.token.TokenKind.{TokenKind}
use Rattle.java_lex.specs.declared.token.TokenKind.TheVariants.{Word, Number, Quoted, Slashed, Symbol, End}
use Rattle.java_lex.specs.Spellings.{Spelling, spelled_in, symbols}

-- the words that are no names
abbrev pub words : List Spelling
words = map (λ s. (s.0.now, s.1, s.2)) WORDS

-- the backslash words of the grammar
abbrev pub slashed : List Spelling
slashed = map (λ s. (s.0.now, s.1, s.2)) SLASHED

-- what a token of this kind is, in an annotation or outside
abbrev pub terminal_of_kind : Bool → TokenKind → Terminal
terminal_of_kind jml (Word bytes) = unwrap_or (spelled_in jml bytes words) terminal.Name
terminal_of_kind jml (Number n) = terminal.Number
terminal_of_kind jml Quoted = terminal.Absent Text
terminal_of_kind jml (Slashed bytes) = unwrap_or (spelled_in true bytes slashed) (terminal.Absent Jml)
terminal_of_kind jml (Symbol bytes) = unwrap_or (spelled_in jml bytes symbols) terminal.Reserved
terminal_of_kind jml End = terminal.End

abbrev pub terminal_of : Token → Terminal
terminal_of t = terminal_of_kind t.jml t.kind

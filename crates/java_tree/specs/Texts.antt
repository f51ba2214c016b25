-- What a token that is to be printed is.
use Rattle.java_lex.specs.declared.token.TokenKind.{TokenKind}
use Rattle.java_lex.specs.declared.token.TokenKind.TheVariants as kind
use Rattle.java_tree.specs.declared.printed.Text.{Text}
use Rattle.java_tree.specs.declared.printed.Text.TheVariants.{Word, Symbol, Slashed, Number}

abbrev pub kind_of_text : Text → TokenKind
kind_of_text (Word bytes) = kind.Word bytes.now
kind_of_text (Symbol bytes) = kind.Symbol bytes.now
kind_of_text (Slashed bytes) = kind.Slashed bytes.now
kind_of_text (Number n) = kind.Number n

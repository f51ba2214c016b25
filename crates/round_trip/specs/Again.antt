-- What it is to read again what was printed.
use Rattle.std.specs.Prelude.{◌≡◌, List}
use Rattle.java_lex.specs.declared.token.Token.{Token}
use Rattle.java_lex.specs.Cut.{Cut}
use Rattle.java_tree.specs.Trees.{Classes}
use Rattle.java_tree.specs.Print.{tree_written, laid_out}
use Rattle.java_tree.specs.Reading.{Parse}
use Rattle.round_trip.specs.Bare.{bare_classes}

-- The text that is printed of these classes is cut into tokens that parse to the same classes, but for their places.
pub record IsReadAgain (cs : Classes) : Type 0 where
  pub tokens : List Token
  pub classes : Classes
  pub cut : Cut (laid_out (tree_written cs)) tokens
  pub parse : Parse tokens classes
  pub same : bare_classes classes ≡ bare_classes cs

-- Reading expressions, arguments and clauses where so many levels are left, and with them a whole text.
use Rattle.std.specs.Prelude.{ℕ, true, false}
use Rattle.java_tree.specs.Trees.{Expr, Exprs, Classes}
use Rattle.reading_core.specs.Deeper.{bracket, always}
use Rattle.expression_reading.specs.Reading.{arguments_in, below, expression_in}
use Rattle.java_reading.specs.Readers.{Reader}
use Rattle.java_reading.specs.MemberReading.{text_in}

-- an expression of code
abbrev pub expression_at : ℕ → Reader Expr
expression_at left ts = expression_in false always left ts

-- an expression of a clause
abbrev pub predicate_at : ℕ → Reader Expr
predicate_at left ts = expression_in true always left ts

-- Args = "(" [ Expr { "," Expr } ] ")"
abbrev pub arguments_at : ℕ → Reader Exprs
arguments_at left ts = bracket false (below false always left) ts arguments_in

-- a text
abbrev pub text_at : Reader Classes
text_at = text_in expression_at arguments_at predicate_at 64

-- What stands behind a word that opens a level.
use Rattle.std.specs.Prelude.{ℕ, List, Some, None}
use Rattle.java_lex.specs.declared.token.Token.{Token}
use Rattle.java_tree.specs.Trees.{Expr, Stmt}
use Rattle.reading_core.specs.Read.{Deep}
use Rattle.java_reading.specs.Readers.{Reader, and_then, left_below}
use Rattle.java_reading.specs.StatementReading.{condition_in, statement_at}
use Rattle.text_reading.specs.Readers.{expression_at, arguments_at}

-- "(" Expr ")" Stmt, behind an `if` or a `while` with which the tokens ts begin
abbrev pub headed_at : ℕ → List Token → Reader (Expr × Stmt)
headed_at left ts behind =
    elim (left_below left) [ None ↦ Deep ts | Some less ↦ and_then (condition_in expression_at arguments_at less behind) (λ c. statement_at expression_at arguments_at less) ]

use Rattle.std.proofs.Common.{[], length}
use Rattle.java_lex.specs.Cut.{IsPiece}
use Rattle.java_lex.specs.Steps.{Reaches}
use Rattle.java_lex.proofs.lexer.tokens.Given as goal

abbrev pub invariant-loop-rest : goal.invariant-loop-rest
invariant-loop-rest l = Reaches IsPiece 0 l.text [] l.tokens.items l.place l.rest

abbrev pub decreases-loop-rest : goal.decreases-loop-rest
decreases-loop-rest l = length l.rest

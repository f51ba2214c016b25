use Rattle.std.proofs.Common.{◌+◌, drop, length}
use Rattle.java_lex.specs.Cut.{IsInside, signs}
use Rattle.java_lex.specs.Steps.{Reaches}
use Rattle.java_lex.proofs.lexer.take_note.Given as goal

abbrev pub invariant-loop-rest : goal.invariant-loop-rest
invariant-loop-rest l = Reaches (IsInside l.closed) (l.at + signs l.content) (drop (signs l.content) l.content) l.fn.tokens.items l.tokens.items l.place l.rest

abbrev pub decreases-loop-rest : goal.decreases-loop-rest
decreases-loop-rest l = length l.rest

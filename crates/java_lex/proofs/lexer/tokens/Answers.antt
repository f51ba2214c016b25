use Rattle.java_lex.proofs.Chains.{reaches_next}
use Rattle.java_lex.proofs.lexer.tokens.Goals as goal

pub loop-rest-preserved : goal.loop-rest-preserved
loop-rest-preserved c = reaches_next c.loop-rest.invariant c.in-Ok.ensures.ok c.split_at.ensures.back

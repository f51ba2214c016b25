use Rattle.java_lex.proofs.Chains.{reaches_next, takes_inside}
use Rattle.java_lex.proofs.lexer.take_note.Goals as goal

pub loop-rest-preserved : goal.loop-rest-preserved
loop-rest-preserved c = reaches_next c.loop-rest.invariant (takes_inside c.args.closed c.in-Ok.ensures.ok c.front_inside-front.ensures.front) c.split_at-in-Ok.ensures.back

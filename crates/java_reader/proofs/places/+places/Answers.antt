use Rattle.std.proofs.Common.{sym, subst}
use Rattle.java_tree.specs.Trees.{Stmt}
use Rattle.java_tree.specs.Seen.{java_tree, stmt_tree}
use Rattle.reading_core.specs.Read.{Read}
use Rattle.reading_core.specs.Gives.{Gives}
use Rattle.text_reading.specs.Readers.{arguments_at, expression_at}
use Rattle.java_reader.proofs.CodeLemmas.{reached_goes}
use Rattle.java_reader.proofs.places.+places.Goals as goal

pub reached-returns-in-Some-lower-clause-is : goal.reached-returns-in-Some-lower-clause-is
reached-returns-in-Some-lower-clause-is t c =
    subst (λ (o : Read Stmt). Gives stmt_tree c.step.result o)
    (sym (reached_goes expression_at arguments_at c.args.base c.args.left c.in-Some-lower.less c.args.kind (java_tree c.args.tree) c.in-Some.token.now c.in-Some.rest.now c.args.tokens.now
    c.terminal_at.result c.turn_at.result c.lower.result c.in-Some.ensures c.terminal_at.ensures c.turn_at.ensures c.in-Goes.is c.lower.ensures c.in-Some-lower.is)) c.step.ensures.is

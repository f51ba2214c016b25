use Rattle.std.proofs.Common.{sym, ◌∙◌, subst}
use Rattle.java_tree.specs.Trees.{Stmt}
use Rattle.java_tree.specs.Seen.{stmt_tree}
use Rattle.reading_core.specs.Read.{Read}
use Rattle.reading_core.specs.Gives.{Gives}
use Rattle.java_reader.proofs.StatementLemmas.{behind_name_is}
use Rattle.java_reader.proofs.statements.behind_name.Goals as goal

pub returns-else-next_is_name-clause-is : goal.returns-else-next_is_name-clause-is
returns-else-next_is_name-clause-is c =
    subst (λ (o : Read Stmt). Gives stmt_tree c.named.result o) (sym (behind_name_is c.args.left c.args.token.now c.in_ok-name.name c.args.tokens.now c.in_ok-name.ensures (sym c.next_is_name.ensures ∙ c.if-next_is_name.false))) c.named.ensures.is

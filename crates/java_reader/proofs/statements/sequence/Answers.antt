use Rattle.java_tree.proofs.Rows.{stmt_block}
use Rattle.java_reader.proofs.statements.sequence.Goals as goal

pub returns : goal.returns
returns c = stmt_block _

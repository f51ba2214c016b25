use Rattle.std.proofs.Common.{sym, ◌∙◌}
use Rattle.reading_core.proofs.ReadLaws.{on_side}
use Rattle.reading_core.proofs.cursor.terminal_at.Goals as goal

pub returns-then-token-jml : goal.returns-then-token-jml
returns-then-token-jml c = c.terminal.ensures ∙ sym (on_side c.args.jml c.args.token.now.jml _ c.if-token-jml.true)

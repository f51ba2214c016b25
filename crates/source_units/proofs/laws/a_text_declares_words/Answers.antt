use Rattle.source_units.proofs.Named.{text_named}
use Rattle.source_units.proofs.laws.a_text_declares_words.Goals as goal

pub returns : goal.returns
returns c bytes classes text = text_named bytes classes text

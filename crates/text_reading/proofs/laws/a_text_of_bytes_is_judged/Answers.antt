use Rattle.text_reading.proofs.TextLaw.{cut_ended, judged}
use Rattle.text_reading.proofs.laws.a_text_of_bytes_is_judged.Goals as goal

pub returns : goal.returns
returns c bytes ts cut = judged ts (cut_ended bytes ts cut)

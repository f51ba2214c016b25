use Rattle.text_reading.proofs.TextLaw.{cut_ended, tells}
use Rattle.text_reading.proofs.laws.reading_tells_the_verdict.Goals as goal

pub returns : goal.returns
returns c bytes ts cut verdict = tells ts (cut_ended bytes ts cut) verdict

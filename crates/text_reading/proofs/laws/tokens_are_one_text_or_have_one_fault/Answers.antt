use Rattle.text_reading.proofs.TextLaw.{judged}
use Rattle.text_reading.proofs.laws.tokens_are_one_text_or_have_one_fault.Goals as goal

pub returns : goal.returns
returns c ts ended = judged ts ended

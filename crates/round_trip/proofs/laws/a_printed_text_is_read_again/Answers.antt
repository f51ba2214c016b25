use Rattle.round_trip.proofs.ReadAgain.{read_again}
use Rattle.round_trip.proofs.laws.a_printed_text_is_read_again.Goals as goal

pub returns : goal.returns
returns c text tokens classes cut parse = read_again text tokens classes cut parse

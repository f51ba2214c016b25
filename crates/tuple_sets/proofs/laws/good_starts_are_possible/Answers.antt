use Rattle.tuple_sets.proofs.Numbers.{good_possible}
use Rattle.tuple_sets.proofs.laws.good_starts_are_possible.Goals as goal

pub returns : goal.returns
returns c = good_possible

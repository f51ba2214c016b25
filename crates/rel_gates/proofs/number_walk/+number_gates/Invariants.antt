use Rattle.rel_gates.proofs.Depths.{parts}
use Rattle.rel_gates.proofs.number_walk.+number_gates.Given as goal

abbrev pub decreases-number_gates : goal.decreases-number_gates
decreases-number_gates l = parts l.number.now

use Rattle.clause_terms.proofs.Settled.{chains_go_right}
use Rattle.clause_terms.proofs.laws.chains_go_right.Goals as goal

pub returns : goal.returns
returns c = chains_go_right

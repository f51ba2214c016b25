use Rattle.clause_terms.proofs.Settled.{flags_settle}
use Rattle.clause_terms.proofs.laws.flags_settle.Goals as goal

pub returns : goal.returns
returns c = flags_settle

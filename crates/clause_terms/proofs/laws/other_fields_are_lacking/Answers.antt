use Rattle.clause_terms.proofs.Lacking.{other_fields_are_lacking}
use Rattle.clause_terms.proofs.laws.other_fields_are_lacking.Goals as goal

pub returns : goal.returns
returns c = other_fields_are_lacking

use Rattle.derivation.proofs.LogHints.{follows_above, valid_in_order}
use Rattle.derivation.proofs.laws.hints_count_from_one.Goals as goal

pub returns-clause-line : goal.returns-clause-line
returns-clause-line c = λ known step followed. follows_above known step followed

pub returns-clause-log : goal.returns-clause-log
returns-clause-log c = λ vars clauses steps is_valid over. valid_in_order vars clauses steps is_valid over

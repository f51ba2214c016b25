use Rattle.derivation.proofs.Sound.{follows_sound, refutes_sound}
use Rattle.derivation.proofs.laws.what_follows_is_true.Goals as goal

pub returns-clause-line : goal.returns-clause-line
returns-clause-line c = λ values known step all followed. follows_sound values known step all followed

pub returns-clause-log : goal.returns-clause-log
returns-clause-log c = λ clauses steps refutes. refutes_sound clauses steps refutes.0 refutes.1

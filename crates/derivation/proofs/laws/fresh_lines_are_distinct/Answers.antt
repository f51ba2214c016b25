use Rattle.derivation.proofs.LogLemmas.{fresh_apart}
use Rattle.derivation.proofs.laws.fresh_lines_are_distinct.Goals as goal

pub returns : goal.returns
returns c = λ clauses front later rest is_fresh some. fresh_apart clauses front later rest is_fresh some

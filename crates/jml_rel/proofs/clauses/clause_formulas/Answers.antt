use Rattle.std.proofs.Common.{rules}
use Rattle.jml_rel.proofs.clauses.clause_formulas.Goals as goal

pub returns-clause-sorted : goal.returns-clause-sorted
returns-clause-sorted c kinds sorts = c.in_ok-formulas.ensures.sorted c.args.problem.now kinds (c.in_ok-term.ensures.sorted kinds (search (rules, sorts)))

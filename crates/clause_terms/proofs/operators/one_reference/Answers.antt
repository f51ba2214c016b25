use Rattle.std.proofs.Common.{◌∙◌}
use Rattle.rel_core.specs.Meaning.{set_of}
use Rattle.clause_terms.proofs.Only.{subset_one}
use Rattle.clause_terms.proofs.operators.one_reference.Goals as goal

pub returns-clause-meaning : goal.returns-clause-meaning
returns-clause-meaning c m v u one two = c.in_ok-within.ensures.meaning m ∙ subset_one m (set_of c.args.y m) (set_of c.args.x m) u two ∙ one.exact u

pub returns-clause-sorted : goal.returns-clause-sorted
returns-clause-sorted c p kinds x y = c.in_ok-within.ensures.sorted p kinds y x

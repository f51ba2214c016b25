-- The class of the method is one.
use Rattle.rel_gates.proofs.ClassLimits.{some_class}
use Rattle.rel_gates.proofs.widths.class_count.Goals as goal

pub returns-clause-some : goal.returns-clause-some
returns-clause-some c = some_class c.args.problem.now c.well_posed.ensures.unit c.well_posed.ensures.scope

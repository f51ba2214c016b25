use Rattle.std.proofs.Common.{◌∙◌}
use Rattle.jml_rel.proofs.Objects.{inside_heap}
use Rattle.jml_rel.proofs.heaps.inside_formula.Goals as goal

pub returns-clause-told : goal.returns-clause-told
returns-clause-told c m heap shown = c.in_ok-inside.ensures.meaning m heap shown ∙ inside_heap c.args.problem.now heap

use Rattle.std.proofs.Common.{◌∙◌}
use Rattle.jml_rel.proofs.Objects.{good_heap}
use Rattle.jml_rel.proofs.heaps.good_formula.Goals as goal

pub returns-clause-told : goal.returns-clause-told
returns-clause-told c m heap shown = c.in_ok-good.ensures.meaning m heap shown ∙ good_heap c.args.problem.now heap

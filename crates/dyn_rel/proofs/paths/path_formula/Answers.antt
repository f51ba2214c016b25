use Rattle.std.proofs.Common.{length, ap, ◌∙◌}
use Rattle.dyn_rel.specs.Formulas.{first_point}
use Rattle.dyn_steps.specs.Looked.{all_vars}
use Rattle.dyn_rel.proofs.Whole.{path_formula_is}
use Rattle.dyn_rel.proofs.paths.path_formula.Goals as goal

pub returns : goal.returns
returns c = λ plain kinded.
    path_formula_is c.args.problem.now c.args.kinds.now c.args.prog.now c.in_ok-part.part c.well_posed.ensures.unit c.well_posed.ensures.scope plain
    _ _ _ _ _ _ kinded (c.in_ok-at.ensures ∙ ap (λ n. first_point n (length c.args.kinds.now)) c.field_count-fields.ensures)
    c.in_ok-also.ensures c.in_ok-first.ensures c.in_ok-last.ensures c.in_ok-after.ensures c.as_slice.ensures (c.in_ok-part.ensures all_vars)

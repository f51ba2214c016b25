use Rattle.std.proofs.Common.{◌∙◌}
use Rattle.dyn_steps.proofs.Combining.{both_of}
use Rattle.dyn_steps.proofs.Parts.{read_part}
use Rattle.dyn_steps.proofs.setting.read.Goals as goal

pub returns : goal.returns
returns c =
    read_part _ _ c.well_posed.ensures.unit c.well_posed.ensures.scope _ _ _ _ _ _ _ _ _ _ c.kind_of-kind.ensures c.slot-new.ensures c.slot-through.ensures c.field-cells.ensures c.in_ok-part.ensures
    (λ m. c.in_ok-formula.ensures.meaning m ∙ both_of _ _ _ _ (c.in_ok-there.ensures.meaning m) (c.in_ok-equal.ensures.meaning m))
    (λ p kinds through target cells. c.in_ok-formula.ensures.sorted p kinds (c.in_ok-there.ensures.sorted p kinds through) (c.in_ok-equal.ensures.sorted p kinds target through cells))

use Rattle.dyn_steps.proofs.Parts.{const_part}
use Rattle.dyn_steps.proofs.setting.constant.Goals as goal

pub returns : goal.returns
returns c =
    const_part _ _ c.well_posed.ensures.unit c.well_posed.ensures.scope _ _ _ _ _ _ c.slot-new.ensures c.in_ok-part.ensures
    c.in_ok-formula.ensures.meaning c.in_ok-formula.ensures.sorted

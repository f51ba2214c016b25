use Rattle.dyn_steps.proofs.Parts.{copy_part}
use Rattle.dyn_steps.proofs.setting.copy.Goals as goal

pub returns : goal.returns
returns c =
    copy_part _ _ c.well_posed.ensures.unit c.well_posed.ensures.scope _ _ _ _ _ _ _ _ c.kind_of-kind.ensures c.slot-new.ensures c.slot-old.ensures c.in_ok-part.ensures
    c.in_ok-formula.ensures.meaning c.in_ok-formula.ensures.sorted

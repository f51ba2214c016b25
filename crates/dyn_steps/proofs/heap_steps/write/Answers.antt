use Rattle.std.proofs.Common.{◌∙◌}
use Rattle.dyn_steps.proofs.Combining.{both_of}
use Rattle.dyn_steps.proofs.Parts.{write_part}
use Rattle.dyn_steps.proofs.heap_steps.write.Goals as goal

pub returns : goal.returns
returns c =
    write_part _ _ c.well_posed.ensures.unit c.well_posed.ensures.scope _ _ _ _ _ _ _ _ _ _ c.field_relation-new.ensures c.slot-through.ensures c.slot-given.ensures c.field-old.ensures
    c.in_ok-part.ensures
    (λ m. c.in_ok-formula.ensures.meaning m ∙ both_of _ _ _ _ (c.in_ok-there.ensures.meaning m) (c.in_ok-changed.ensures.meaning m))
    (λ p kinds through change. c.in_ok-formula.ensures.sorted p kinds (c.in_ok-there.ensures.sorted p kinds through) (c.in_ok-changed.ensures.sorted p kinds through change))

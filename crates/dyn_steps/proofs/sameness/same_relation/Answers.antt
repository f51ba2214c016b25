use Rattle.dyn_steps.proofs.Tested.{slot_part, spread_part, not_slot}
use Rattle.dyn_steps.proofs.sameness.same_relation.Goals as goal

pub returns-in_ok-same-in-Slot : goal.returns-in_ok-same-in-Slot
returns-in_ok-same-in-Slot c = λ p known. slot_part p _ _ _ _ _ _ _ _ _ c.in-Slot.is c.kind_of-kind.ensures c.slot-left.ensures c.slot-right.ensures c.in_ok-same-in-Slot.ensures.meaning
    c.in_ok-same-in-Slot.ensures.sorted known

pub returns-in_ok-same-in_default : goal.returns-in_ok-same-in_default
returns-in_ok-same-in_default c = λ p known. spread_part p _ _ _ _ _ (not_slot c.args.what c.in_default.not-Slot) c.in_ok-same-in_default.ensures.meaning c.in_ok-same-in_default.ensures.sorted known

use Rattle.std.proofs.Common.{refl}
use Rattle.dyn_steps.proofs.Tested.{test_part}
use Rattle.dyn_steps.proofs.sameness.test.Goals as goal

pub returns : goal.returns
returns c = test_part _ _ _ _ _ _ c.slot-variable.ensures refl c.in_ok-formula.ensures.meaning c.in_ok-formula.ensures.sorted

use Rattle.std.specs.Prelude.{slice_get}
use Rattle.dyn_steps.proofs.Tested.{no_path}
use Rattle.dyn_steps.proofs.making.nothing.Goals as goal

pub returns : goal.returns
returns c = λ p kinds before after point. no_path p kinds before after _ _ c.in_ok-formula.ensures.meaning (c.in_ok-formula.ensures.sorted p (slice_get kinds)) point

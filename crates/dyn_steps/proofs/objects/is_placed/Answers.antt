use Rattle.std.proofs.Common.{◌∙◌}
use Rattle.dyn_steps.proofs.Combining.{implied_of}
use Rattle.dyn_steps.proofs.objects.is_placed.Goals as goal

pub returns-clause-meaning : goal.returns-clause-meaning
returns-clause-meaning c = λ m. c.in_ok-placed.ensures.meaning m ∙ implied_of _ _ _ _ (c.in_ok-next.ensures.meaning m) (c.in_ok-is.ensures.meaning m)

pub returns-clause-sorted : goal.returns-clause-sorted
returns-clause-sorted c = λ p kinds below variable live. c.in_ok-placed.ensures.sorted p kinds (c.in_ok-next.ensures.sorted p kinds below live) (c.in_ok-is.ensures.sorted p kinds below variable)

use Rattle.std.proofs.Common.{◌∙◌}
use Rattle.dyn_steps.proofs.Combining.{both_of}
use Rattle.dyn_steps.proofs.objects.is_next.Goals as goal

pub returns-clause-meaning : goal.returns-clause-meaning
returns-clause-meaning c = λ m. c.in_ok-both.ensures.meaning m ∙ both_of _ _ _ _ (c.in_ok-free.ensures.meaning m) (c.in_ok-before.ensures.meaning m)

pub returns-clause-sorted : goal.returns-clause-sorted
returns-clause-sorted c = λ p kinds below live. c.in_ok-both.ensures.sorted p kinds (c.in_ok-free.ensures.sorted p kinds below live) (c.in_ok-before.ensures.sorted p kinds below live)

use Rattle.std.proofs.Common.{ap, ◌∙◌, refl}
use Rattle.rel_core.specs.Uses.{AsFlag, is_spread}
use Rattle.dyn_steps.specs.Meanings.{there}
use Rattle.dyn_steps.proofs.Combining.{both_of}
use Rattle.dyn_steps.proofs.making.live_grown.Goals as goal

pub returns-clause-meaning : goal.returns-clause-meaning
returns-clause-meaning c = λ m. c.in_ok-both.ensures.meaning m ∙ both_of _ _ _ _ (c.in_ok-there.ensures.meaning m ∙ ap (λ r. there m r 0) c.in_ok-given.ensures) (c.in_ok-grown.ensures.meaning m)

pub returns-clause-sorted : goal.returns-clause-sorted
returns-clause-sorted c = λ p kinds below variable.
    c.in_ok-both.ensures.sorted p kinds (c.in_ok-there.ensures.sorted p kinds below (ap (is_spread p kinds AsFlag) c.in_ok-given.ensures)) (c.in_ok-grown.ensures.sorted p kinds variable refl)

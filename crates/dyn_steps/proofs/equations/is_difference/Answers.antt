use Rattle.std.proofs.Common.{refl}
use Rattle.dyn_steps.proofs.equations.is_difference.Goals as goal

pub returns-clause-meaning : goal.returns-clause-meaning
returns-clause-meaning c = λ m. rw (c.in_ok-same.ensures.meaning m, c.in_ok-difference.ensures.meaning m, c.in_ok-left.ensures.meaning m, c.in_ok-right.ensures.meaning m) refl

pub returns-clause-sorted : goal.returns-clause-sorted
returns-clause-sorted c = λ p kinds a b d. c.in_ok-same.ensures.sorted p kinds a
    (c.in_ok-difference.ensures.sorted p kinds (c.in_ok-left.ensures.sorted p kinds b) (c.in_ok-right.ensures.sorted p kinds d))

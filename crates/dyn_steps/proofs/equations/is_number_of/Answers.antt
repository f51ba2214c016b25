use Rattle.std.proofs.Common.{refl}
use Rattle.dyn_steps.proofs.equations.is_number_of.Goals as goal

pub returns-clause-meaning : goal.returns-clause-meaning
returns-clause-meaning c = λ m. rw (c.in_ok-same.ensures.meaning m, c.in_ok-number.ensures.meaning m, c.in_ok-object.ensures.meaning m) refl

pub returns-clause-sorted : goal.returns-clause-sorted
returns-clause-sorted c = λ p kinds a b d. c.in_ok-same.ensures.sorted p kinds a (c.in_ok-number.ensures.sorted p kinds (c.in_ok-object.ensures.sorted p kinds b) d)

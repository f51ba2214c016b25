use Rattle.std.proofs.Common.{◌∙◌}
use Rattle.dyn_steps.proofs.Combining.{subset_of, both_of}
use Rattle.dyn_steps.proofs.equations.is_reference_of.Goals as goal

pub returns-clause-meaning : goal.returns-clause-meaning
returns-clause-meaning c = λ m. c.in_ok-same.ensures.meaning m
    ∙ both_of _ _ _ _ (c.in_ok-within.ensures.meaning m ∙ subset_of m _ _ _ _ (c.in_ok-inner.ensures.meaning m) (c.in_ok-outer.ensures.meaning m))
    (c.in_ok-around.ensures.meaning m ∙ subset_of m _ _ _ _ (c.in_ok-inner-2.ensures.meaning m) (c.in_ok-outer-2.ensures.meaning m))

pub returns-clause-sorted : goal.returns-clause-sorted
returns-clause-sorted c = λ p kinds a b d. c.in_ok-same.ensures.sorted p kinds
    (c.in_ok-within.ensures.sorted p kinds (c.in_ok-inner.ensures.sorted p kinds a) (c.in_ok-outer.ensures.sorted p kinds b d))
    (c.in_ok-around.ensures.sorted p kinds (c.in_ok-inner-2.ensures.sorted p kinds b d) (c.in_ok-outer-2.ensures.sorted p kinds a))

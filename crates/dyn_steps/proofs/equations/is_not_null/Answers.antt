use Rattle.std.proofs.Common.{ap, ◌∙◌}
use Rattle.std.specs.Prelude.{not}
use Rattle.dyn_steps.proofs.Combining.{subset_of}
use Rattle.dyn_steps.proofs.equations.is_not_null.Goals as goal

pub returns-clause-meaning : goal.returns-clause-meaning
returns-clause-meaning c = λ m. c.in_ok-not_null.ensures.meaning m ∙ ap not (c.in_ok-null.ensures.meaning m ∙ subset_of m _ _ _ _ (c.in_ok-inner.ensures.meaning m) (c.in_ok-outer.ensures.meaning m))

pub returns-clause-sorted : goal.returns-clause-sorted
returns-clause-sorted c = λ p kinds a. c.in_ok-not_null.ensures.sorted p kinds (c.in_ok-null.ensures.sorted p kinds (c.in_ok-inner.ensures.sorted p kinds) (c.in_ok-outer.ensures.sorted p kinds a))

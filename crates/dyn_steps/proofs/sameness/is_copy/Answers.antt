use Rattle.std.proofs.Common.{ap, ◌∙◌}
use Rattle.rel_core.specs.Meaning.{is_changed}
use Rattle.dyn_steps.proofs.sameness.is_copy.Goals as goal

pub returns-clause-meaning : goal.returns-clause-meaning
returns-clause-meaning c = λ m. c.in_ok-same.ensures.meaning m ∙ ap (λ s. is_changed m c.args.new s c.args.old c.args.old) (c.in_ok-nothing.ensures.meaning m)

pub returns-clause-sorted : goal.returns-clause-sorted
returns-clause-sorted c = λ p kinds change. c.in_ok-same.ensures.sorted p kinds (c.in_ok-nothing.ensures.sorted p kinds) change

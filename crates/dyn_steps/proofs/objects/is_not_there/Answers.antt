use Rattle.std.proofs.Common.{ap, ◌∙◌}
use Rattle.std.specs.Prelude.{not}
use Rattle.dyn_steps.proofs.objects.is_not_there.Goals as goal

pub returns-clause-meaning : goal.returns-clause-meaning
returns-clause-meaning c = λ m. c.in_ok-opposite.ensures.meaning m ∙ ap not (c.in_ok-flag.ensures.meaning m)

pub returns-clause-sorted : goal.returns-clause-sorted
returns-clause-sorted c = λ p kinds below live. c.in_ok-opposite.ensures.sorted p kinds (c.in_ok-flag.ensures.sorted p kinds below live)

use Rattle.std.proofs.Common.{ap, ◌∙◌}
use Rattle.rel_core.specs.Meaning.{joined}
use Rattle.dyn_steps.proofs.making.first_references.Goals as goal

pub returns-clause-meaning : goal.returns-clause-meaning
returns-clause-meaning c = λ m. c.in_ok-references.ensures.meaning m ∙ ap (λ s. joined m s c.args.relation) (c.in_ok-place.ensures.meaning m)

pub returns-clause-sorted : goal.returns-clause-sorted
returns-clause-sorted c = λ p kinds below live. c.in_ok-references.ensures.sorted p kinds (c.in_ok-place.ensures.sorted p kinds below) live

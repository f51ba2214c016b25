use Rattle.std.proofs.Common.{ap, ◌∙◌}
use Rattle.rel_core.specs.Meaning.{are_of}
use Rattle.dyn_steps.proofs.making.is_of_class.Goals as goal

pub returns-clause-meaning : goal.returns-clause-meaning
returns-clause-meaning c = λ m. c.in_ok-of.ensures.meaning m ∙ ap (λ s. are_of m s c.args.class c.args.relation) (c.in_ok-place.ensures.meaning m)

pub returns-clause-sorted : goal.returns-clause-sorted
returns-clause-sorted c = λ p kinds below spread. c.in_ok-of.ensures.sorted p kinds (c.in_ok-place.ensures.sorted p kinds below) spread

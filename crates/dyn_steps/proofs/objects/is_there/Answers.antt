use Rattle.std.proofs.Common.{false, ap, ◌∙◌}
use Rattle.std.specs.Option.{option_map_or}
use Rattle.rel_core.specs.Meaning.{only_object}
use Rattle.dyn_steps.proofs.objects.is_there.Goals as goal

pub returns-clause-meaning : goal.returns-clause-meaning
returns-clause-meaning c = λ m. c.in_ok-flag.ensures.meaning m ∙ ap (λ s. option_map_or (m.flag c.args.live) (only_object m s) false) (c.in_ok-set.ensures.meaning m)

pub returns-clause-sorted : goal.returns-clause-sorted
returns-clause-sorted c = λ p kinds below live. c.in_ok-flag.ensures.sorted p kinds (c.in_ok-set.ensures.sorted p kinds below) live

use Rattle.std.proofs.Common.{ap, ◌∙◌}
use Rattle.std.specs.Prelude.{not, nat_lt}
use Rattle.dyn_steps.specs.Meanings.{there}
use Rattle.dyn_steps.proofs.objects.has_room.Goals as goal

pub returns-clause-meaning : goal.returns-clause-meaning
returns-clause-meaning c = λ m. c.in_ok-free.ensures.meaning m ∙ ap (λ o. not (there m c.args.live o)) c.saturating_sub.ensures

pub returns-clause-sorted : goal.returns-clause-sorted
returns-clause-sorted c = λ p kinds below live. c.in_ok-free.ensures.sorted p kinds (ap (λ o. nat_lt o p.scope.objects) c.saturating_sub.ensures ∙ below) live

use Rattle.dyn_steps.proofs.objects.follows.Goals as goal

pub returns-in_ok-always-clause-sorted : goal.returns-in_ok-always-clause-sorted
returns-in_ok-always-clause-sorted c = λ p kinds below live. c.in_ok-always.ensures.sorted p kinds

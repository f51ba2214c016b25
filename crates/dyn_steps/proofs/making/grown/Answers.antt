use Rattle.std.proofs.Common.{ap, ◌∙◌}
use Rattle.rel_core.specs.Meaning.{is_changed}
use Rattle.rel_core.specs.Uses.{can_change}
use Rattle.dyn_steps.proofs.making.grown.Goals as goal

pub returns-clause-meaning : goal.returns-clause-meaning
returns-clause-meaning c = λ m.
    c.in_ok-written.ensures.meaning m
    ∙ ap (λ r. is_changed m (record { what = c.args.what; index = c.args.from.now.next }) (m.refs c.args.variable 0) r (record { what = c.args.what; index = c.args.old })) c.in_ok-given.ensures

pub returns-clause-sorted : goal.returns-clause-sorted
returns-clause-sorted c = λ p kinds variable change. c.in_ok-written.ensures.sorted p kinds variable
    (ap (λ r. can_change p kinds (record { what = c.args.what; index = c.args.from.now.next }) r (record { what = c.args.what; index = c.args.old })) c.in_ok-given.ensures ∙ change)

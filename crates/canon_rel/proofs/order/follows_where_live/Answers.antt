use Rattle.std.proofs.Common.{not, ◌||◌, ap, ◌∙◌}
use Rattle.rel_core.specs.Meaning.{holds}
use Rattle.rel_core.specs.Shown.{live_relation}
use Rattle.canon_rel.proofs.order.follows_where_live.Goals as goal

pub returns-clause-meaning : goal.returns-clause-meaning
returns-clause-meaning c = λ m within inside.
    c.in_ok-part.ensures.meaning m ∙ ap (λ b. not b || holds c.in_ok-follows.follows m) (c.in_ok-live.ensures.meaning m inside)
    ∙ ap (λ b. not (m.flag (live_relation c.args.at.now) c.args.object) || b) (c.in_ok-follows.ensures.meaning m within inside)

pub returns-clause-sorted : goal.returns-clause-sorted
returns-clause-sorted c = λ p kinds sorted inside. c.in_ok-part.ensures.sorted p kinds (c.in_ok-live.ensures.sorted p kinds inside) (c.in_ok-follows.ensures.sorted p kinds sorted inside)

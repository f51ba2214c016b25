use Rattle.std.proofs.Common.{rules}
use Rattle.std.proofs.Common.{◌∙◌}
use Rattle.rel_core.specs.Meaning.{holds, set_of}
use Rattle.jml_rel.proofs.Forms.{told_guard}
use Rattle.jml_rel.proofs.guards.is_there.Goals as goal

pub returns-clause-meaning : goal.returns-clause-meaning
returns-clause-meaning c m below = c.in_ok-both.ensures.meaning m
    ∙ told_guard m c.args.at.now (set_of c.in_ok-first.first m) (set_of c.in_ok-second.second m) c.args.class c.args.object (holds c.in_ok-live.live m) (holds c.in_ok-of.of m) below
    (c.in_ok-first.ensures.meaning m) (c.in_ok-second.ensures.meaning m) (search (rules, c.in_ok-live.ensures.meaning)) (search (rules, c.in_ok-of.ensures.meaning))

pub returns-clause-sorted : goal.returns-clause-sorted
returns-clause-sorted c p kinds below = c.in_ok-both.ensures.sorted p kinds
    (c.in_ok-live.ensures.sorted p kinds (c.in_ok-first.ensures.sorted p kinds below) (search rules))
    (c.in_ok-of.ensures.sorted p kinds (c.in_ok-second.ensures.sorted p kinds below) (search rules))

use Rattle.std.proofs.Common.{◌∙◌}
use Rattle.rel_core.specs.Meaning.{set_of}
use Rattle.jml_rel.proofs.Objects.{null_there}
use Rattle.jml_rel.proofs.fields.has_null.Goals as goal

pub returns-clause-meaning : goal.returns-clause-meaning
returns-clause-meaning c m below = c.in_ok-has.ensures.meaning m
    ∙ null_there m (set_of c.in_ok-null.null m) (set_of c.in_ok-held.held m) (set_of c.in_ok-set.set m) c.args.relation c.args.object below
    (c.in_ok-null.ensures.meaning m) (c.in_ok-set.ensures.meaning m) (c.in_ok-held.ensures.meaning m)

pub returns-clause-sorted : goal.returns-clause-sorted
returns-clause-sorted c p kinds below spread = c.in_ok-has.ensures.sorted p kinds (c.in_ok-null.ensures.sorted p kinds)
    (c.in_ok-held.ensures.sorted p kinds (c.in_ok-set.ensures.sorted p kinds below) spread)

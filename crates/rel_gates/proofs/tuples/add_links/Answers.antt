-- The next one is put behind the others.
use Rattle.std.proofs.Common.{◌∙◌}
use Rattle.rel_gates.specs.Rows.{link_uses}
use Rattle.rel_gates.proofs.TupleNaming.{pushed_next}
use Rattle.rel_gates.proofs.tuples.add_links.Goals as goal

pub loop-place-preserved : goal.loop-place-preserved
loop-place-preserved c =
    c.in_ok-push.ensures.items
    ∙ pushed_next c.args.list.now.items c.loop-place.list.items (link_uses c.args.problem.now) c.loop-place.place c.link_use.result c.link_use.ensures c.loop-place.invariant

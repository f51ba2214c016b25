-- The next one is put behind the others.
use Rattle.std.proofs.Common.{◌∙◌}
use Rattle.rel_gates.specs.Rows.{root_uses}
use Rattle.rel_gates.proofs.TupleNaming.{pushed_next}
use Rattle.rel_gates.proofs.tuples.add_roots.Goals as goal

pub loop-place-preserved : goal.loop-place-preserved
loop-place-preserved c =
    c.in_ok-push.ensures.items
    ∙ pushed_next c.args.list.now.items c.loop-place.list.items (root_uses c.args.problem.now) c.loop-place.place c.root_use.result c.root_use.ensures c.loop-place.invariant

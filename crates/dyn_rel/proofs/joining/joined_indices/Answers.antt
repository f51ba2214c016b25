use Rattle.dyn_rel.proofs.Joints.{indices_more}
use Rattle.dyn_rel.proofs.joining.joined_indices.Goals as goal

pub loop-place-preserved : goal.loop-place-preserved
loop-place-preserved c =
    indices_more c.args.olds.now c.args.firsts.now c.args.seconds.now _ _ _ _ _ _ c.loop-place.place c.in_ok-push.ensures.ok c.joined_index-index.ensures
    c.index_at-old.ensures c.index_at-first.ensures c.index_at-second.ensures c.loop-place.invariant

use Rattle.dyn_rel.proofs.Lists.{numbered_more, numbered_all}
use Rattle.dyn_rel.proofs.paths.slots_of.Goals as goal

pub loop-place-preserved : goal.loop-place-preserved
loop-place-preserved c =
    numbered_more c.args.indices.now c.loop-place.place _ _ _ _ c.loop-place-test.true c.in_ok-variable.ensures c.index_at-index.ensures c.in_ok-push.ensures.ok c.loop-place.invariant

pub returns : goal.returns
returns c = numbered_all c.args.indices.now c.loop-place.place _ c.loop-place-test.false c.loop-place.invariant

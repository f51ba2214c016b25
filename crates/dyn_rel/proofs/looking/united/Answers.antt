use Rattle.dyn_rel.proofs.LookedSets.{united_more}
use Rattle.dyn_rel.proofs.looking.united.Goals as goal

pub loop-place-preserved : goal.loop-place-preserved
loop-place-preserved c = united_more c.args.first.now c.args.second.now _ _ c.loop-place.place _ c.in_ok-push.ensures.ok c.is_in_either-inside.ensures c.loop-place.invariant

use Rattle.std.proofs.Common.{◌≡◌, map, take}
use Rattle.sat_order.proofs.BumpLemmas.{aged_by}
use Rattle.sat_order.proofs.queue.Queue.by_age.Given as goal

abbrev pub invariant-loop-var : goal.invariant-loop-var
invariant-loop-var l = l.aged.items ≡ map (aged_by l.self-inside.stamps.items l.self-inside.newest) (take l.var-index l.vars)

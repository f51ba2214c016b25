use Rattle.std.proofs.Common.{◌≡◌, ◌-◌, length}
use Rattle.std.specs.List.{list_all, range_with_len}
use Rattle.heap_core.specs.Judge.{is_good, is_good_at}
use Rattle.heap_replay.proofs.good.is_good.Given as goal

-- all objects so far are good
abbrev pub invariant-loop-object : goal.invariant-loop-object
invariant-loop-object l = list_all (is_good_at l.problem l.heap) (range_with_len l.object (length l.heap - l.object)) ≡ is_good l.problem l.heap

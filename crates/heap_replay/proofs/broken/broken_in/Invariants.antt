use Rattle.std.proofs.Common.{◌≡◌, ◌-◌, length, flat_map}
use Rattle.std.specs.List.{range_with_len}
use Rattle.heap_core.specs.Judge.{broken_at, numbers_of}
use Rattle.heap_replay.specs.Firsts.{first}
use Rattle.heap_replay.proofs.broken.broken_in.Given as goal

-- the objects so far have no broken part
abbrev pub invariant-loop-object : goal.invariant-loop-object
invariant-loop-object l =
    first (flat_map (broken_at l.problem l.heap) (range_with_len l.object (length l.heap - l.object))) ≡ first (flat_map (broken_at l.problem l.heap) (numbers_of l.heap))

use Rattle.std.proofs.Common.{◌≡◌, ◌++◌, ◌-◌, length, flat_map}
use Rattle.std.specs.List.{range_with_len}
use Rattle.heap_core.specs.Judge.{all_invariants, invariants_at}
use Rattle.heap_replay.proofs.clauses.all_invariants.Given as goal

-- the values so far, and then those of the objects that are left, are those of all
abbrev pub invariant-loop-object : goal.invariant-loop-object
invariant-loop-object l =
    l.values ++ flat_map (invariants_at l.problem l.heap) (range_with_len l.object (length l.heap - l.object)) ≡ all_invariants l.problem l.heap

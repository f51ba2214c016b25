use Rattle.std.proofs.Common.{◌≡◌, ◌+◌, drop}
use Rattle.heap_replay.specs.Firsts.{first, untrue_from}
use Rattle.heap_replay.proofs.broken.first_untrue.Given as goal

-- the values so far are true
abbrev pub invariant-loop-place : goal.invariant-loop-place
invariant-loop-place l = first (untrue_from 1 l.values) ≡ first (untrue_from (l.place + 1) (drop l.place l.values))

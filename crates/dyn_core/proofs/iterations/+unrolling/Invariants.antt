use Rattle.std.proofs.Common.{◌≡◌, map, take}
use Rattle.dyn_core.specs.Unrolled.{unrolled}
use Rattle.dyn_core.proofs.iterations.+unrolling.Given as goal

abbrev pub invariant-all_written_out-loop-part : goal.invariant-all_written_out-loop-part
invariant-all_written_out-loop-part l = l.all ≡ map (unrolled l.turns) (take l.part-index l.parts)

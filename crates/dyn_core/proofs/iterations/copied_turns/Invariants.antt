use Rattle.std.proofs.Common.{◌≡◌}
use Rattle.dyn_core.specs.Unrolled.{repeated}
use Rattle.dyn_core.proofs.iterations.copied_turns.Given as goal

abbrev pub invariant-loop-made : goal.invariant-loop-made
invariant-loop-made l = l.more ≡ repeated l.made l.body

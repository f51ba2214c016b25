use Rattle.std.proofs.Common.{◌≡◌, map, take}
use Rattle.dyn_plan.specs.Programs.{program_of_step}
use Rattle.dyn_plan.proofs.program.program_of.Given as goal

abbrev pub invariant-loop-step : goal.invariant-loop-step
invariant-loop-step l = l.all ≡ map program_of_step (take l.step-index l.steps)

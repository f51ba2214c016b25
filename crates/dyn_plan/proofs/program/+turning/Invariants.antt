use Rattle.std.proofs.Common.{◌≡◌, ◌∷◌, map, take}
use Rattle.dyn_core.specs.declared.prog.Prog.TheVariants as q
use Rattle.dyn_plan.specs.Programs.{program_of_step}
use Rattle.dyn_plan.proofs.program.+turning.Given as goal

abbrev pub invariant-tested-loop-step : goal.invariant-tested-loop-step
invariant-tested-loop-step l = l.all ≡ q.Test l.flag l.wanted ∷ map program_of_step (take l.step-index l.steps)

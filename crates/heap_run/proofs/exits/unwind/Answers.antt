use Rattle.heap_run.proofs.WaitSteps.{passes}
use Rattle.heap_run.proofs.exits.unwind.Goals as goal

pub returns-clause-step : goal.returns-clause-step
returns-clause-step c p = passes p c.args.machine.now c.args.wait c.args.value c.in_default.not-Caller

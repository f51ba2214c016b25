use Rattle.heap_run.proofs.WaitSteps.{nothing_ends}
use Rattle.heap_run.proofs.exits.go_on.Goals as goal

pub returns-clause-step : goal.returns-clause-step
returns-clause-step c p =
    nothing_ends p c.args.machine.now c.args.wait c.in_default.not-Rest c.in_default.not-Again c.in_default.not-Caller

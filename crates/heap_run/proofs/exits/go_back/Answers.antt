use Rattle.heap_run.proofs.WaitSteps.{back_at}
use Rattle.heap_run.proofs.exits.go_back.Goals as goal

pub returns-clause-step : goal.returns-clause-step
returns-clause-step c p = rw c.given_back.ensures (back_at p c.args.machine.now c.args.caller c.args.wanted c.args.value)

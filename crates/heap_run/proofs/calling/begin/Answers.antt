use Rattle.std.proofs.Common.{[], ◌∷◌, ◌++◌, refl, ap, ◌∙◌}
use Rattle.std.specs.Prelude.{map}
use Rattle.heap_core.specs.Outcomes.{zero_of}
use Rattle.heap_run.proofs.CallSteps.{begun_at}
use Rattle.heap_run.specs.declared.machine.Wait.TheVariants as w
use Rattle.heap_run.proofs.calling.begin.Goals as goal

pub returns-clause-step : goal.returns-clause-step
returns-clause-step c =
    begun_at c.args.machine.now c.args.method.now c.args.this c.args.args c.args.wanted c.in_ok-locals.locals c.replace-caller.new.dest c.push.new.self _ refl
    (c.in_ok-locals.ensures ∙ ap (λ z. c.args.args ++ map zero_of z) c.as_slice.ensures)
    c.replace-caller.ensures.after
    (c.in_ok-push.ensures.ok
    ∙ ap (λ z. c.args.machine.now.waits ++ w.Caller z c.otherwise_of-otherwise.result c.args.wanted ∷ []) c.replace-caller.ensures.value
    ∙ ap (λ z. c.args.machine.now.waits ++ w.Caller c.args.machine.now.frame z c.args.wanted ∷ []) c.otherwise_of-otherwise.ensures)

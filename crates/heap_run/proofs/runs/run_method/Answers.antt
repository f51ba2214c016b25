use Rattle.std.proofs.Common.{◌≡◌, ℕ, List, ◌++◌, refl, ap, ◌∙◌}
use Rattle.std.specs.Prelude.{map}
use Rattle.heap_core.specs.declared.value.Value.{Value}
use Rattle.heap_core.specs.Outcomes.{zero_of}
use Rattle.heap_run.specs.declared.machine.Activation.{Activation}
use Rattle.heap_run.specs.declared.machine.Machine.{Machine}
use Rattle.heap_run.specs.Runs.{ends_with}
use Rattle.heap_run.proofs.WaitSteps.{whole_run}
use Rattle.heap_run.proofs.runs.run_method.Goals as goal

pub returns-clause-run : goal.returns-clause-run
returns-clause-run c =
    let m : Machine = record {
      waits = c.new-waits.result;
      frame = record { this = c.args.start.now.this; locals = c.in_ok-locals.locals; left = c.calls_of-left.result };
      heap = c.in_ok-heap.heap;
    } in
    let locals : c.in_ok-locals.locals ≡ c.args.start.now.args ++ map zero_of c.args.method.now.locals =
    c.in_ok-locals.ensures ∙ ap (λ z. z ++ map zero_of c.as_slice-2.result.now) (c.in_ok-args.ensures ∙ c.as_slice.ensures) ∙ ap (λ z. c.args.start.now.args ++ map zero_of z) c.as_slice-2.ensures
    in
    let first : List Value → ℕ → Activation = λ ls left. record { this = c.args.start.now.this; locals = ls; left = left } in
    record {
      same =
          ap (λ z. ends_with c.in_ok-outcome.outcome (record { heap = z })) c.from_vec-heap.ensures
          ∙ c.in_ok-outcome.ensures.step.same
          ∙ whole_run c.args.problem.now c.args.start.now c.args.method.now m c.args.method.now.body c.requires refl c.new-waits.ensures
          (ap (λ z. first z c.calls_of-left.result) locals ∙ ap (first (c.args.start.now.args ++ map zero_of c.args.method.now.locals)) c.calls_of-left.ensures)
          (c.in_ok-heap.ensures ∙ c.as_slice-3.ensures);
    }

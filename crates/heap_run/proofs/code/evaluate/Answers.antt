use Rattle.std.proofs.Common.{◌≡◌, inl, inr, ap, sym, ◌∙◌}
use Rattle.std.specs.Prelude.{slice_get}
use Rattle.taco_unit.specs.declared.expr.Expr.TheVariants as e
use Rattle.heap_core.specs.declared.value.Value.TheVariants as v
use Rattle.heap_core.specs.Outcomes.{number}
use Rattle.heap_core.specs.Exec.{Gives, Leaves, ends_as, gives_in, make, calls}
use Rattle.heap_core.proofs.ExecForms.{code_num, code_flag, code_null, code_this, code_local, code_new, code_result, code_bound, code_quant, code_old, code_has, code_size}
use Rattle.std.proofs.Common.{SFits, w32, rules}
use Rattle.std.proofs.lemmas.Int.{to_z-of_z}
use Rattle.heap_run.specs.Onward.{frame_of}
use Rattle.heap_run.specs.Cost.{call_cost}
use Rattle.heap_run.specs.Tasks.{given, given_in}
use Rattle.heap_run.specs.Machines.{memory}
use Rattle.heap_run.proofs.Costs.{cost_num, cost_flag, cost_null, cost_this, cost_local, cost_new, cost_result, cost_bound, cost_quant, cost_old, cost_has, cost_size}
use Rattle.heap_run.proofs.CodeSteps.{evaluated_as, gained_at, gives_seen, gives_value, gives_nothing, gives_local, read_at, neg_at, not_at, bin_at, call_at}
use Rattle.heap_run.proofs.code.evaluate.Goals as goal

pub returns-in-Num-clause-step : goal.returns-in-Num-clause-step
returns-in-Num-clause-step c =
    evaluated_as c.args.problem.now c.args.machine.now c.args.machine.now _ _ _ c.in-Num.is
    (gained_at c.args.problem.now c.args.machine.now c.args.machine.now _ (e.Num c.in-Num.z) (ends_as (memory c.args.machine.now) (number c.args.problem.now.scope.ints c.in-Num.z)) (code_num c.args.problem.now (calls c.args.problem.now c.args.machine.now.frame.left) c.in-Num.z (frame_of c.args.machine.now.frame) (memory c.args.machine.now)) (cost_num (call_cost c.args.problem.now c.args.machine.now.frame.left) c.in-Num.z) (let is : c.given.result ≡ given (number c.args.problem.now.scope.ints c.in-Num.z) = c.given.ensures ∙ ap given (c.literal.ensures ∙ ap (number c.args.problem.now.scope.ints) (let fits : SFits w32 c.in-Num.z = search rules in to_z-of_z w32 c.in-Num.z fits)) in rw is (gives_seen c.args.problem.now c.args.machine.now (number c.args.problem.now.scope.ints c.in-Num.z))))

pub returns-in-Flag-clause-step : goal.returns-in-Flag-clause-step
returns-in-Flag-clause-step c =
    evaluated_as c.args.problem.now c.args.machine.now c.args.machine.now _ _ _ c.in-Flag.is
    (gained_at c.args.problem.now c.args.machine.now c.args.machine.now _ (e.Flag c.in-Flag.b) (Gives (v.Flag c.in-Flag.b) (memory c.args.machine.now)) (code_flag c.args.problem.now (calls c.args.problem.now c.args.machine.now.frame.left) c.in-Flag.b (frame_of c.args.machine.now.frame) (memory c.args.machine.now)) (cost_flag (call_cost c.args.problem.now c.args.machine.now.frame.left) c.in-Flag.b) (gives_value c.args.problem.now c.args.machine.now (v.Flag c.in-Flag.b)))

pub returns-in-Null-clause-step : goal.returns-in-Null-clause-step
returns-in-Null-clause-step c =
    evaluated_as c.args.problem.now c.args.machine.now c.args.machine.now _ _ _ c.in-Null.is
    (gained_at c.args.problem.now c.args.machine.now c.args.machine.now _ (e.Null) (Gives v.Null (memory c.args.machine.now)) (code_null c.args.problem.now (calls c.args.problem.now c.args.machine.now.frame.left) (frame_of c.args.machine.now.frame) (memory c.args.machine.now)) (cost_null (call_cost c.args.problem.now c.args.machine.now.frame.left)) (gives_value c.args.problem.now c.args.machine.now v.Null))

pub returns-in-This-clause-step : goal.returns-in-This-clause-step
returns-in-This-clause-step c =
    evaluated_as c.args.problem.now c.args.machine.now c.args.machine.now _ _ _ c.in-This.is
    (gained_at c.args.problem.now c.args.machine.now c.args.machine.now _ (e.This) (Gives c.args.machine.now.frame.this (memory c.args.machine.now)) (code_this c.args.problem.now (calls c.args.problem.now c.args.machine.now.frame.left) (frame_of c.args.machine.now.frame) (memory c.args.machine.now)) (cost_this (call_cost c.args.problem.now c.args.machine.now.frame.left)) (gives_value c.args.problem.now c.args.machine.now c.args.machine.now.frame.this))

pub returns-in-Local-clause-step : goal.returns-in-Local-clause-step
returns-in-Local-clause-step c =
    evaluated_as c.args.problem.now c.args.machine.now c.args.machine.now _ _ _ c.in-Local.is
    (gained_at c.args.problem.now c.args.machine.now c.args.machine.now _ (e.Local c.in-Local.i) (gives_in (slice_get c.args.machine.now.frame.locals c.in-Local.i) (memory c.args.machine.now)) (code_local c.args.problem.now (calls c.args.problem.now c.args.machine.now.frame.left) c.in-Local.i (frame_of c.args.machine.now.frame) (memory c.args.machine.now)) (cost_local (call_cost c.args.problem.now c.args.machine.now.frame.left) c.in-Local.i) (let is : c.given_in.result ≡ given_in (slice_get c.args.machine.now.frame.locals c.in-Local.i) = c.given_in.ensures ∙ ap given_in (c.local_at.ensures ∙ ap (λ z. slice_get z c.in-Local.i) c.as_slice.ensures) in rw is (gives_local c.args.problem.now c.args.machine.now (slice_get c.args.machine.now.frame.locals c.in-Local.i))))

pub returns-in_ok-task-in-Read-clause-step : goal.returns-in_ok-task-in-Read-clause-step
returns-in_ok-task-in-Read-clause-step c =
    let is : c.args.expr.now ≡ e.Read c.get.result.now c.in-Read.f = c.in-Read.is ∙ ap (λ z. e.Read z c.in-Read.f) (sym c.get.ensures) in
    evaluated_as c.args.problem.now c.args.machine.now c.evaluate_for.new.machine c.in_ok-task-in-Read.task _ _ is
    (read_at c.args.problem.now c.args.machine.now c.evaluate_for.new.machine c.in_ok-task-in-Read.task c.get.result.now c.in-Read.f (c.in_ok-task-in-Read.ensures.step c.args.problem.now))

pub returns-in_ok-task-in-Neg-clause-step : goal.returns-in_ok-task-in-Neg-clause-step
returns-in_ok-task-in-Neg-clause-step c =
    let is : c.args.expr.now ≡ e.Neg c.get-in-Neg.result.now = c.in-Neg.is ∙ ap (λ z. e.Neg z) (sym c.get-in-Neg.ensures) in
    evaluated_as c.args.problem.now c.args.machine.now c.evaluate_for-in-Neg.new.machine c.in_ok-task-in-Neg.task _ _ is
    (neg_at c.args.problem.now c.args.machine.now c.evaluate_for-in-Neg.new.machine c.in_ok-task-in-Neg.task c.get-in-Neg.result.now (c.in_ok-task-in-Neg.ensures.step c.args.problem.now))

pub returns-in_ok-task-in-Not-clause-step : goal.returns-in_ok-task-in-Not-clause-step
returns-in_ok-task-in-Not-clause-step c =
    let is : c.args.expr.now ≡ e.Not c.get-in-Not.result.now = c.in-Not.is ∙ ap (λ z. e.Not z) (sym c.get-in-Not.ensures) in
    evaluated_as c.args.problem.now c.args.machine.now c.evaluate_for-in-Not.new.machine c.in_ok-task-in-Not.task _ _ is
    (not_at c.args.problem.now c.args.machine.now c.evaluate_for-in-Not.new.machine c.in_ok-task-in-Not.task c.get-in-Not.result.now (c.in_ok-task-in-Not.ensures.step c.args.problem.now))

pub returns-in_ok-task-in-Bin-clause-step : goal.returns-in_ok-task-in-Bin-clause-step
returns-in_ok-task-in-Bin-clause-step c =
    let is : c.args.expr.now ≡ e.Bin c.in-Bin.op c.get-in-Bin-2.result.now c.get-in-Bin.result.now =
    c.in-Bin.is ∙ ap (λ z. e.Bin c.in-Bin.op z c.in-Bin.b) (sym c.get-in-Bin-2.ensures) ∙ ap (λ z. e.Bin c.in-Bin.op c.get-in-Bin-2.result.now z) (sym c.get-in-Bin.ensures)
    in
    evaluated_as c.args.problem.now c.args.machine.now c.evaluate_for-in-Bin.new.machine c.in_ok-task-in-Bin.task _ _ is
    (bin_at c.args.problem.now c.args.machine.now c.evaluate_for-in-Bin.new.machine c.in_ok-task-in-Bin.task c.in-Bin.op c.get-in-Bin-2.result.now c.get-in-Bin.result.now (c.in_ok-task-in-Bin.ensures.step c.args.problem.now))

pub returns-in_ok-task-in-New-clause-step : goal.returns-in_ok-task-in-New-clause-step
returns-in_ok-task-in-New-clause-step c =
    evaluated_as c.args.problem.now c.args.machine.now c.make.new.machine _ _ _ c.in-New.is
    (gained_at c.args.problem.now c.args.machine.now c.make.new.machine _ (e.New c.in-New.class) (make c.args.problem.now c.in-New.class (memory c.args.machine.now)) (code_new c.args.problem.now (calls c.args.problem.now c.args.machine.now.frame.left) c.in-New.class (frame_of c.args.machine.now.frame) (memory c.args.machine.now)) (cost_new (call_cost c.args.problem.now c.args.machine.now.frame.left) c.in-New.class) (c.in_ok-task-in-New.ensures.step))

pub returns-in_ok-task-in-Call-clause-step : goal.returns-in_ok-task-in-Call-clause-step
returns-in_ok-task-in-Call-clause-step c =
    evaluated_as c.args.problem.now c.args.machine.now c.call.new.machine c.in_ok-task-in-Call.task _ _ c.in-Call.is
    (call_at c.args.problem.now c.args.machine.now c.call.new.machine c.in_ok-task-in-Call.task c.in-Call.c c.in_ok-task-in-Call.ensures.step)

pub returns-in-Result-clause-step : goal.returns-in-Result-clause-step
returns-in-Result-clause-step c =
    elim c.in-Result.is [
      | inl h ↦ evaluated_as c.args.problem.now c.args.machine.now c.args.machine.now _ _ _ h (gained_at c.args.problem.now c.args.machine.now c.args.machine.now _ (e.Result) Leaves (code_result c.args.problem.now (calls c.args.problem.now c.args.machine.now.frame.left) (frame_of c.args.machine.now.frame) (memory c.args.machine.now)) (cost_result (call_cost c.args.problem.now c.args.machine.now.frame.left)) (gives_nothing c.args.problem.now c.args.machine.now))
      | inr r ↦ elim r [
        | inl h ↦ evaluated_as c.args.problem.now c.args.machine.now c.args.machine.now _ _ _ h.1 (gained_at c.args.problem.now c.args.machine.now c.args.machine.now _ (e.Bound h.0) Leaves (code_bound c.args.problem.now (calls c.args.problem.now c.args.machine.now.frame.left) h.0 (frame_of c.args.machine.now.frame) (memory c.args.machine.now)) (cost_bound (call_cost c.args.problem.now c.args.machine.now.frame.left) h.0) (gives_nothing c.args.problem.now c.args.machine.now))
        | inr r' ↦ elim r' [
          | inl h ↦ evaluated_as c.args.problem.now c.args.machine.now c.args.machine.now _ _ _ h.1 (gained_at c.args.problem.now c.args.machine.now c.args.machine.now _ (e.Quant h.0) Leaves (code_quant c.args.problem.now (calls c.args.problem.now c.args.machine.now.frame.left) h.0 (frame_of c.args.machine.now.frame) (memory c.args.machine.now)) (cost_quant (call_cost c.args.problem.now c.args.machine.now.frame.left) h.0) (gives_nothing c.args.problem.now c.args.machine.now))
          | inr r'' ↦ elim r'' [
            | inl h ↦ evaluated_as c.args.problem.now c.args.machine.now c.args.machine.now _ _ _ h.1 (gained_at c.args.problem.now c.args.machine.now c.args.machine.now _ (e.Old h.0) Leaves (code_old c.args.problem.now (calls c.args.problem.now c.args.machine.now.frame.left) h.0 (frame_of c.args.machine.now.frame) (memory c.args.machine.now)) (cost_old (call_cost c.args.problem.now c.args.machine.now.frame.left) h.0) (gives_nothing c.args.problem.now c.args.machine.now))
            | inr q ↦ elim q [
              | inl h ↦ evaluated_as c.args.problem.now c.args.machine.now c.args.machine.now _ _ _ h.2 (gained_at c.args.problem.now c.args.machine.now c.args.machine.now _ (e.Has h.0 h.1) Leaves (code_has c.args.problem.now (calls c.args.problem.now c.args.machine.now.frame.left) h.0 h.1 (frame_of c.args.machine.now.frame) (memory c.args.machine.now)) (cost_has (call_cost c.args.problem.now c.args.machine.now.frame.left) h.0 h.1) (gives_nothing c.args.problem.now c.args.machine.now))
              | inr h ↦ evaluated_as c.args.problem.now c.args.machine.now c.args.machine.now _ _ _ h.1 (gained_at c.args.problem.now c.args.machine.now c.args.machine.now _ (e.Size h.0) Leaves (code_size c.args.problem.now (calls c.args.problem.now c.args.machine.now.frame.left) h.0 (frame_of c.args.machine.now.frame) (memory c.args.machine.now)) (cost_size (call_cost c.args.problem.now c.args.machine.now.frame.left) h.0) (gives_nothing c.args.problem.now c.args.machine.now))
            ]
          ]
        ]
      ]
    ]

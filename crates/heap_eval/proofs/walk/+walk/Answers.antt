use Rattle.std.proofs.Common.{◌≡◌, ap, sym, ◌∙◌, refl}
use Rattle.taco_unit.specs.declared.expr.Expr.{Expr}
use Rattle.heap_core.specs.Posed.{Posed}
use Rattle.heap_core.specs.Eval.{eval}
use Rattle.heap_core.proofs.EvalForms.{eval_quant}
use Rattle.heap_eval.specs.Environs.{env_of}
use Rattle.heap_eval.proofs.Instances.{of_parts}
use Rattle.heap_eval.proofs.walk.+walk.Goals as goal

pub evaluate-returns-in-Quant : goal.evaluate-returns-in-Quant
evaluate-returns-in-Quant t c = rw (c.in-Quant.is, eval_quant c.in-Quant.q (env_of c.args.env)) c.quantified.ensures

pub instance-returns-in-Some-settled : goal.instance-returns-in-Some-settled
instance-returns-in-Some-settled t c =
    let env = env_of c.args.env in
    let body = eval c.args.quant.now.body env in
    let range : c.in_ok-left-in-Some.left ≡ eval c.in-Some.range env = c.in_ok-left-in-Some.ensures ∙ ap (λ (e : Expr). eval e env) c.get-in-Some.ensures in
    sym (c.in-Some-settled.ensures env.ints body) ∙ of_parts c.args.quant.now c.in-Some.range env c.range_operator-op.result env.ints c.in_ok-left-in-Some.left body c.in-Some.is c.range_operator-op.ensures refl range refl

pub instance-returns-in_ok-right-in-None-settled : goal.instance-returns-in_ok-right-in-None-settled
instance-returns-in_ok-right-in-None-settled t c =
    let env = env_of c.args.env in
    let ints : c.problem.inside.scope.ints ≡ env.ints = ap (λ (p : Posed). p.scope.ints) c.problem.view_is in
    let range : c.in_ok-left-in-Some.left ≡ eval c.in-Some.range env = c.in_ok-left-in-Some.ensures ∙ ap (λ (e : Expr). eval e env) c.get-in-Some.ensures in
    let body : c.in_ok-right-in-None-settled.right ≡ eval c.args.quant.now.body env = c.in_ok-right-in-None-settled.ensures ∙ ap (λ (e : Expr). eval e env) c.get-in-None-settled.ensures in
    c.combined.ensures ∙ of_parts c.args.quant.now c.in-Some.range env c.range_operator-op.result c.problem.inside.scope.ints c.in_ok-left-in-Some.left c.in_ok-right-in-None-settled.right c.in-Some.is c.range_operator-op.ensures ints range body

use Rattle.std.proofs.Common.{◌≡◌}
use Rattle.taco_unit.specs.declared.expr.Quant.{out-Quant}
use Rattle.heap_core.specs.Heap.{is_of}
use Rattle.heap_core.specs.Eval.{bind, over}
use Rattle.heap_eval.specs.Environs.{env_of, instance_at}
use Rattle.heap_eval.proofs.walk.+walk.Given as goal

abbrev pub invariant-quantified-loop-object : goal.invariant-quantified-loop-object
invariant-quantified-loop-object l = l.outcome ≡ over (out-Quant l.quant).all (is_of l.env.heap.now (out-Quant l.quant).class) (λ o. instance_at l.quant (bind (env_of l.env) o)) l.object

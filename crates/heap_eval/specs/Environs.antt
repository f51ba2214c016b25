-- The environment of heap_core's definitions that an environment of the code stands for, and what a
-- quantifier gives in it.
use Rattle.std.specs.Prelude.{Bool, true, false, ◌≤◌, length, option_map}
use Rattle.taco_unit.specs.declared.expr.Op.{Op}
use Rattle.taco_unit.specs.declared.expr.Op.TheVariants as op
use Rattle.taco_unit.specs.declared.expr.Quant.{Quant, out-Quant}
use Rattle.heap_core.specs.declared.value.Seen.{Seen}
use Rattle.heap_core.specs.Heap.{is_of}
use Rattle.heap_core.specs.Eval.{Env, eval, bind, instance_of, over}
use Rattle.heap_eval.specs.declared.environment.Environment.{Environment}

abbrev pub env_of : Environment → Env
env_of e = record {
  classes = e.problem.now.unit.classes;
  objects = e.problem.now.scope.objects;
  ints = e.problem.now.scope.ints;
  this = e.this;
  locals = e.locals.now;
  bound = e.bound.now;
  result = e.result;
  heap = e.heap.now;
  heap_before = e.before.now;
}

-- both heaps are within the scope
pub record IsWithin (env : Env) : Type 0 where
  pub now : length env.heap ≤ env.objects
  pub before : length env.heap_before ≤ env.objects

-- the operator between the range of a quantifier and its body
abbrev pub range_operator : Bool → Op
range_operator true = op.Implies
range_operator false = op.And

-- one instance of a quantifier, whose variable is bound
abbrev pub instance_at : Quant → Env → Seen
instance_at q = instance_of (out-Quant q).all (option_map eval (out-Quant q).range) (eval (out-Quant q).body)

-- a quantifier
abbrev pub quantified_at : Quant → Env → Seen
quantified_at q env = over (out-Quant q).all (is_of env.heap (out-Quant q).class) (λ o. instance_at q (bind env o)) env.objects

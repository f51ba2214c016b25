-- The parts of clauses that the translation treats apart.
use Rattle.std.specs.Prelude.{Bool, true, false, option_map}
use Rattle.taco_unit.specs.declared.expr.Op.{Op}
use Rattle.taco_unit.specs.declared.expr.Op.TheVariants as op
use Rattle.taco_unit.specs.declared.expr.Quant.{Quant, out-Quant}
use Rattle.heap_core.specs.declared.value.Seen.{Seen}
use Rattle.heap_core.specs.Heap.{is_of}
use Rattle.heap_core.specs.Eval.{Env, eval, bind, instance_of, over}

-- the operator of a chain
abbrev pub chain_operator : Bool → Op
chain_operator true = op.Or
chain_operator false = op.And

-- the operator between the range of a quantifier and its body
abbrev pub range_operator : Bool → Op
range_operator true = op.Implies
range_operator false = op.And

-- one instance of a quantifier, whose variable is bound
abbrev pub instance_at : Quant → Env → Seen
instance_at q = instance_of (out-Quant q).all (option_map eval (out-Quant q).range) (eval (out-Quant q).body)

-- a quantifier
abbrev pub quantified_at : Quant → Env → Seen
quantified_at q env = over (out-Quant q).all (is_of env.heap (out-Quant q).class) (λ o. instance_at q (bind env o)) env.objects

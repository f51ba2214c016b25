-- One instance of a quantifier with a range.
use Rattle.std.proofs.Common.{◌≡◌, ℕ, Some, refl}
use Rattle.std.specs.Prelude.{Bool, true, false}
use Rattle.taco_unit.specs.declared.expr.Op.{Op}
use Rattle.taco_unit.specs.declared.expr.Expr.{Expr}
use Rattle.taco_unit.specs.declared.expr.Quant.{Quant, out-Quant}
use Rattle.heap_core.specs.declared.value.Seen.{Seen}
use Rattle.heap_core.specs.Eval.{Env, Meaning, eval, binary, instance_of}
use Rattle.heap_eval.specs.Environs.{instance_at, range_operator}

by_operator : (all : Bool) (range body : Meaning) (env : Env) → instance_of all (Some range) body env ≡ binary (range_operator all) env.ints (range env) (body env)
by_operator true range body env = refl
by_operator false range body env = refl

-- it is what an operator makes of its range and its body
ranged : (q : Quant) (range : Expr) (env : Env) → (out-Quant q).range ≡ Some range → instance_at q env ≡ binary (range_operator (out-Quant q).all) env.ints (eval range env) (eval (out-Quant q).body env)
ranged q range env is = rw is (by_operator (out-Quant q).all (eval range) (eval (out-Quant q).body) env)

pub of_parts : (q : Quant) (range : Expr) (env : Env) (operator : Op) (ints : ℕ) (left right : Seen) → (out-Quant q).range ≡ Some range → operator ≡ range_operator (out-Quant q).all → ints ≡ env.ints → left ≡ eval range env → right ≡ eval (out-Quant q).body env → binary operator ints left right ≡ instance_at q env
of_parts q range env operator ints left right is by width one two = rw (by, width, one, two, ranged q range env is) refl

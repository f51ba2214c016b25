-- Laws of the operators that look at their right operand only where it decides. (This project's own.)
use Rattle.std.specs.Prelude.{◌≡◌, ℕ, Bool, true, false, Option}
use Rattle.taco_unit.specs.declared.expr.Op.{Op}
use Rattle.taco_unit.specs.declared.expr.Op.TheVariants as op
use Rattle.heap_core.specs.declared.value.Seen.{Seen}
use Rattle.heap_core.specs.Outcomes.{as_flag, opposite, with_value}
use Rattle.heap_core.specs.Eval.{Env, Meaning, binary, instance_of}

-- the operator takes its left operand as a truth value, and looks at the right one only where that decides nothing
abbrev pub is_lazy : Op → Bool
is_lazy op.And = true
is_lazy op.Or = true
is_lazy op.Implies = true
is_lazy _ = false

-- a chain gives what it gives from the right
pub record ChainsGoRight : Type 0 where
  pub and_chain : (w : ℕ) (x y z : Seen) → binary op.And w (binary op.And w x y) z ≡ binary op.And w x (binary op.And w y z)
  pub or_chain : (w : ℕ) (x y z : Seen) → binary op.Or w (binary op.Or w x y) z ≡ binary op.Or w x (binary op.Or w y z)

-- what gives truth values alone is itself, taken as a truth value
pub record FlagsSettle : Type 0 where
  pub lazy_settled : (o : Op) (w : ℕ) (x y : Seen) → is_lazy o ≡ true → as_flag (binary o w x y) ≡ binary o w x y
  pub opposite_settled : (x : Seen) → as_flag (with_value x opposite) ≡ with_value x opposite
  pub instance_settled : (all : Bool) (range : Option Meaning) (body : Meaning) (env : Env) → as_flag (instance_of all range body env) ≡ instance_of all range body env
  pub flag_settled : (x : Seen) → as_flag (as_flag x) ≡ as_flag x

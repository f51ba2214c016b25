-- Laws of the operators that look at their right operand only where it decides.
use Rattle.std.proofs.Common.{◌≡◌, ℕ, Bool, true, false, Option, Some, None, refl, sym}
use Rattle.std.specs.Prelude.{◌≢◌}
use Rattle.std.proofs.lemmas.Bool.{false≢true}
use Rattle.taco_unit.specs.declared.expr.Op.{Op}
use Rattle.taco_unit.specs.declared.expr.Op.TheVariants as op
use Rattle.heap_core.specs.declared.value.Value.TheVariants.{Null, Obj, Num, Flag}
use Rattle.heap_core.specs.declared.value.Seen.{Seen}
use Rattle.heap_core.specs.declared.value.Seen.TheVariants.{Is, Bad, Out}
use Rattle.heap_core.specs.Outcomes.{as_flag, opposite, with_value, operated}
use Rattle.heap_core.specs.Eval.{Env, Meaning, binary, instance_of}
use Rattle.clause_terms.specs.Chains.{ChainsGoRight, FlagsSettle, is_lazy}
use Rattle.clause_terms.proofs.Flags.{twice_as_flag}

and_settled : (w : ℕ) (x y : Seen) → as_flag (binary op.And w x y) ≡ binary op.And w x y
and_settled w Bad y = refl
and_settled w Out y = refl
and_settled w (Is Null) y = refl
and_settled w (Is (Obj o)) y = refl
and_settled w (Is (Num z)) y = refl
and_settled w (Is (Flag true)) y = twice_as_flag y
and_settled w (Is (Flag false)) y = refl

or_settled : (w : ℕ) (x y : Seen) → as_flag (binary op.Or w x y) ≡ binary op.Or w x y
or_settled w Bad y = refl
or_settled w Out y = refl
or_settled w (Is Null) y = refl
or_settled w (Is (Obj o)) y = refl
or_settled w (Is (Num z)) y = refl
or_settled w (Is (Flag true)) y = refl
or_settled w (Is (Flag false)) y = twice_as_flag y

implies_settled : (w : ℕ) (x y : Seen) → as_flag (binary op.Implies w x y) ≡ binary op.Implies w x y
implies_settled w Bad y = refl
implies_settled w Out y = refl
implies_settled w (Is Null) y = refl
implies_settled w (Is (Obj o)) y = refl
implies_settled w (Is (Num z)) y = refl
implies_settled w (Is (Flag true)) y = twice_as_flag y
implies_settled w (Is (Flag false)) y = refl

lazy_settled : (o : Op) (w : ℕ) (x y : Seen) → is_lazy o ≡ true → as_flag (binary o w x y) ≡ binary o w x y
lazy_settled op.And w x y is = and_settled w x y
lazy_settled op.Or w x y is = or_settled w x y
lazy_settled op.Implies w x y is = implies_settled w x y
lazy_settled op.Add w x y is = absurd (false≢true is)
lazy_settled op.Sub w x y is = absurd (false≢true is)
lazy_settled op.Mul w x y is = absurd (false≢true is)
lazy_settled op.Eq w x y is = absurd (false≢true is)
lazy_settled op.Ne w x y is = absurd (false≢true is)
lazy_settled op.Lt w x y is = absurd (false≢true is)
lazy_settled op.Le w x y is = absurd (false≢true is)
lazy_settled op.Gt w x y is = absurd (false≢true is)
lazy_settled op.Ge w x y is = absurd (false≢true is)
lazy_settled op.Iff w x y is = absurd (false≢true is)

pub opposite_settled : (x : Seen) → as_flag (with_value x opposite) ≡ with_value x opposite
opposite_settled Bad = refl
opposite_settled Out = refl
opposite_settled (Is Null) = refl
opposite_settled (Is (Obj o)) = refl
opposite_settled (Is (Num z)) = refl
opposite_settled (Is (Flag b)) = refl

instance_settled : (all : Bool) (range : Option Meaning) (body : Meaning) (env : Env) → as_flag (instance_of all range body env) ≡ instance_of all range body env
instance_settled true None body env = twice_as_flag (body env)
instance_settled false None body env = twice_as_flag (body env)
instance_settled true (Some range) body env = implies_settled env.ints (range env) (body env)
instance_settled false (Some range) body env = and_settled env.ints (range env) (body env)

pub flags_settle : FlagsSettle
flags_settle = record { lazy_settled = lazy_settled; opposite_settled = opposite_settled; instance_settled = instance_settled; flag_settled = twice_as_flag }

-- ## chains

as_and : (w : ℕ) (y z : Seen) → binary op.And w (as_flag y) z ≡ as_flag (binary op.And w y z)
as_and w Bad z = refl
as_and w Out z = refl
as_and w (Is Null) z = refl
as_and w (Is (Obj o)) z = refl
as_and w (Is (Num n)) z = refl
as_and w (Is (Flag true)) z = sym (twice_as_flag z)
as_and w (Is (Flag false)) z = refl

and_chain : (w : ℕ) (x y z : Seen) → binary op.And w (binary op.And w x y) z ≡ binary op.And w x (binary op.And w y z)
and_chain w Bad y z = refl
and_chain w Out y z = refl
and_chain w (Is Null) y z = refl
and_chain w (Is (Obj o)) y z = refl
and_chain w (Is (Num n)) y z = refl
and_chain w (Is (Flag true)) y z = as_and w y z
and_chain w (Is (Flag false)) y z = refl

as_or : (w : ℕ) (y z : Seen) → binary op.Or w (as_flag y) z ≡ as_flag (binary op.Or w y z)
as_or w Bad z = refl
as_or w Out z = refl
as_or w (Is Null) z = refl
as_or w (Is (Obj o)) z = refl
as_or w (Is (Num n)) z = refl
as_or w (Is (Flag true)) z = refl
as_or w (Is (Flag false)) z = sym (twice_as_flag z)

or_chain : (w : ℕ) (x y z : Seen) → binary op.Or w (binary op.Or w x y) z ≡ binary op.Or w x (binary op.Or w y z)
or_chain w Bad y z = refl
or_chain w Out y z = refl
or_chain w (Is Null) y z = refl
or_chain w (Is (Obj o)) y z = refl
or_chain w (Is (Num n)) y z = refl
or_chain w (Is (Flag true)) y z = refl
or_chain w (Is (Flag false)) y z = as_or w y z

pub chains_go_right : ChainsGoRight
chains_go_right = record { and_chain = and_chain; or_chain = or_chain }

-- ## the operators that evaluate both operands

pub strict_is : (o : Op) (w : ℕ) (x y : Seen) → o ≢ op.And → o ≢ op.Or → o ≢ op.Implies → binary o w x y ≡ with_value x (λ v. with_value y (operated o w v))
strict_is op.And w x y a b c = absurd (a refl)
strict_is op.Or w x y a b c = absurd (b refl)
strict_is op.Implies w x y a b c = absurd (c refl)
strict_is op.Add w x y a b c = refl
strict_is op.Sub w x y a b c = refl
strict_is op.Mul w x y a b c = refl
strict_is op.Eq w x y a b c = refl
strict_is op.Ne w x y a b c = refl
strict_is op.Lt w x y a b c = refl
strict_is op.Le w x y a b c = refl
strict_is op.Gt w x y a b c = refl
strict_is op.Ge w x y a b c = refl
strict_is op.Iff w x y a b c = refl

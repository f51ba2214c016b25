-- Operators. (Java Language Specification, "Expressions"; JML Reference Manual, "Predicates and Specification
-- Expressions".)
use Rattle.std.specs.Prelude.{ℕ, ℤ, pos, neg_ℤ, min, Bool, true, false, ◌||◌, List, ◌++◌, Option, None, Some, Result, Ok}
use Rattle.java_tree.specs.declared.expressions.Sign.{Sign}
use Rattle.java_tree.specs.declared.expressions.Sign.TheVariants as sign
use Rattle.taco_unit.specs.declared.expr.Expr.{Expr}
use Rattle.taco_unit.specs.declared.expr.Expr.TheVariants as e
use Rattle.taco_unit.specs.declared.expr.Op.{Op}
use Rattle.taco_unit.specs.declared.expr.Op.TheVariants as op
use Rattle.declared_names.specs.declared.fault.Fault.{Fault}
use Rattle.declared_names.specs.declared.fault.Cause.TheVariants.{Kinds}
use Rattle.declared_names.specs.declared.sort.Sort.{Sort}
use Rattle.declared_names.specs.declared.sort.Sort.TheVariants.{Int, Flag}
use Rattle.typed_forms.specs.declared.typed.Typed.{Typed}
use Rattle.declared_names.specs.Faults.{check}
use Rattle.declared_names.specs.Seen.{Seen, Stands, unless, over, told, on}
use Rattle.declared_names.specs.Sorts.{fits}

abbrev pub typed : ℕ → Sort → Expr → Typed
typed at sort x = record { at = at; sort = sort; expr = x }

-- an operand of another kind than the one wanted
abbrev pub wanted : Sort → ℕ → Sort → List Fault
wanted sort at given = check (fits sort given) at Kinds

abbrev pub wants : Sort → Typed → List Fault
wants sort x = wanted sort x.at x.sort

abbrev pub op_of : Sign → Op
op_of sign.Add = op.Add
op_of sign.Sub = op.Sub
op_of sign.Mul = op.Mul
op_of sign.Eq = op.Eq
op_of sign.Ne = op.Ne
op_of sign.Lt = op.Lt
op_of sign.Le = op.Le
op_of sign.Gt = op.Gt
op_of sign.Ge = op.Ge
op_of sign.And = op.And
op_of sign.Or = op.Or
op_of sign.Implies = op.Implies
op_of sign.Iff = op.Iff

-- the kind of both operands, where the operator fixes it
abbrev pub operand_sort : Sign → Option Sort
operand_sort sign.Add = Some Int
operand_sort sign.Sub = Some Int
operand_sort sign.Mul = Some Int
operand_sort sign.Eq = None
operand_sort sign.Ne = None
operand_sort sign.Lt = Some Int
operand_sort sign.Le = Some Int
operand_sort sign.Gt = Some Int
operand_sort sign.Ge = Some Int
operand_sort sign.And = Some Flag
operand_sort sign.Or = Some Flag
operand_sort sign.Implies = Some Flag
operand_sort sign.Iff = Some Flag

abbrev pub result_sort : Sign → Sort
result_sort sign.Add = Int
result_sort sign.Sub = Int
result_sort sign.Mul = Int
result_sort sign.Eq = Flag
result_sort sign.Ne = Flag
result_sort sign.Lt = Flag
result_sort sign.Le = Flag
result_sort sign.Gt = Flag
result_sort sign.Ge = Flag
result_sort sign.And = Flag
result_sort sign.Or = Flag
result_sort sign.Implies = Flag
result_sort sign.Iff = Flag

-- `==>` and `<==>` stand in clauses alone
abbrev pub is_of_code : Sign → Bool
is_of_code sign.Add = true
is_of_code sign.Sub = true
is_of_code sign.Mul = true
is_of_code sign.Eq = true
is_of_code sign.Ne = true
is_of_code sign.Lt = true
is_of_code sign.Le = true
is_of_code sign.Gt = true
is_of_code sign.Ge = true
is_of_code sign.And = true
is_of_code sign.Or = true
is_of_code sign.Implies = false
is_of_code sign.Iff = false

-- `==` and `!=` compare two kinds that fit; else the right operand is at fault
abbrev pub operand_faults : Option Sort → Typed → Typed → List Fault
operand_faults (Some sort) x y = wants sort x ++ wants sort y
operand_faults None x y = wanted x.sort y.at y.sort

abbrev pub operated : ℕ → Bool → Sign → Typed → Typed → Seen Typed
operated at clause sign x y =
    unless (check (clause || is_of_code sign) at Kinds ++ operand_faults (operand_sort sign) x y) (typed at (result_sort sign) (e.Bin (op_of sign) x.expr y.expr))

abbrev pub negated : ℕ → Typed → Seen Typed
negated at x = unless (wants Flag x) (typed at Flag (e.Not x.expr))

-- a literal; no text has one above 2147483647
abbrev pub literal : ℕ → ℤ
literal n = pos (min n 2147483647)

abbrev pub minus_value : ℕ → Typed → Seen Typed
minus_value at x = unless (wants Int x) (typed at Int (e.Neg x.expr))

-- a minus directly before a literal makes one number
abbrev pub minus_of : ℕ → Option ℕ → Seen Typed → Seen Typed
minus_of at (Some n) a = Stands (typed at Int (e.Num (neg_ℤ (literal n))))
minus_of at None a = over a (minus_value at)

-- the same, by what is reported of the value
abbrev pub minus_told : ℕ → Option ℕ → Result Typed Fault → Result Typed Fault
minus_told at (Some n) a = Ok (typed at Int (e.Num (neg_ℤ (literal n))))
minus_told at None a = on a (λ x. told (minus_value at x))

-- Values, numbers of a given width, and what operators make of them.
use Rattle.std.specs.Prelude.{ℕ, ◌-◌, ◌^◌, ◌==◌, nat_lt, ℤ, pos, negsuc, ◌+ℤ◌, ◌-ℤ◌, ◌*ℤ◌, neg_ℤ, int_lt, int_le, Bool, true, false, not, if◌then◌else◌, Option, Some, None}
use Rattle.std.specs.Ordering.{int_eq}
use Rattle.taco_unit.specs.declared.kind.Kind.{Kind}
use Rattle.taco_unit.specs.declared.kind.Kind.TheVariants as kind
use Rattle.taco_unit.specs.declared.expr.Op.{Op}
use Rattle.taco_unit.specs.declared.expr.Op.TheVariants as op
use Rattle.heap_core.specs.declared.value.Value.{Value}
use Rattle.heap_core.specs.declared.value.Value.TheVariants.{Null, Obj, Num, Flag}
use Rattle.heap_core.specs.declared.value.Seen.{Seen}
use Rattle.heap_core.specs.declared.value.Seen.TheVariants.{Is, Bad, Out}

-- the number lies in two's complement of w bits, -2^(w-1) to 2^(w-1) - 1 (this project's own: Java's
-- `int` at a smaller width)
abbrev pub in_bits : ℕ → ℤ → Bool
in_bits w (pos n) = nat_lt n (2 ^ (w - 1))
in_bits w (negsuc n) = nat_lt n (2 ^ (w - 1))

-- the value of a kind with which fields and locals begin (Java Language Specification, "Initial Values
-- of Variables", here for locals too)
abbrev pub zero_of : Kind → Value
zero_of kind.Int = Num (pos 0)
zero_of kind.Flag = Flag false
zero_of (kind.Ref c) = Null

abbrev pub is_null : Value → Bool
is_null Null = true
is_null _ = false

-- the value is the object of this number
abbrev pub is_object : ℕ → Value → Bool
is_object o (Obj p) = o == p
is_object o _ = false

abbrev pub is_out : Seen → Bool
is_out Out = true
is_out _ = false

abbrev pub is_bad : Seen → Bool
is_bad Bad = true
is_bad _ = false

-- the evaluation gives true
abbrev pub is_true : Seen → Bool
is_true (Is (Flag b)) = b
is_true _ = false

-- the evaluation gives null
abbrev pub gives_null : Seen → Bool
gives_null (Is v) = is_null v
gives_null _ = false

-- the evaluation gives the object of this number
abbrev pub gives_object : ℕ → Seen → Bool
gives_object o (Is v) = is_object o v
gives_object o _ = false

-- a number, where it lies in w bits (this project's own: a number that leaves them is not wrapped, the
-- evaluation is Out)
abbrev pub number : ℕ → ℤ → Seen
number w z = if in_bits w z then Is (Num z) else Out

-- a truth value
abbrev pub flag : Bool → Seen
flag b = Is (Flag b)

-- a value that may be missing; what the kinds rule out is Out
abbrev pub value_in : Option Value → Seen
value_in (Some v) = Is v
value_in None = Out

-- on from a value: the first operand that is Bad or Out decides (Java Language Specification, "Evaluate
-- Operands before Operation")
abbrev pub with_value : Seen → (Value → Seen) → Seen
with_value (Is v) k = k v
with_value Bad k = Bad
with_value Out k = Out

-- a number, a truth value; a value of another kind, which the kinds rule out, is Out
abbrev pub on_number : (ℤ → Seen) → Value → Seen
on_number k (Num z) = k z
on_number k _ = Out

abbrev pub on_flag : (Bool → Seen) → Value → Seen
on_flag k (Flag b) = k b
on_flag k _ = Out

abbrev pub on_numbers : (ℤ → ℤ → Seen) → Value → Value → Seen
on_numbers k (Num x) (Num y) = k x y
on_numbers k _ _ = Out

-- on from a truth value
abbrev pub with_flag : Seen → (Bool → Seen) → Seen
with_flag s k = with_value s (on_flag k)

-- the same truth value, where it is one
abbrev pub as_flag : Seen → Seen
as_flag s = with_flag s flag

-- two truth values are the same
abbrev pub same_flag : Bool → Bool → Bool
same_flag true b = b
same_flag false b = not b

-- whether two values of one kind are the same (Java Language Specification, "Equality Operators")
abbrev pub same : Value → Value → Seen
same Null Null = flag true
same Null (Obj p) = flag false
same (Obj o) Null = flag false
same (Obj o) (Obj p) = flag (o == p)
same (Num x) (Num y) = flag (int_eq x y)
same (Flag a) (Flag b) = flag (same_flag a b)
same _ _ = Out

-- two values are one
abbrev pub is_value : Value → Value → Bool
is_value Null Null = true
is_value (Obj o) (Obj p) = o == p
is_value (Num x) (Num y) = int_eq x y
is_value (Flag a) (Flag b) = same_flag a b
is_value _ _ = false

-- the evaluation gives the value
abbrev pub gives : Value → Seen → Bool
gives v (Is u) = is_value u v
gives v _ = false

-- the opposite truth value (Java Language Specification, "Logical Complement Operator !")
abbrev pub opposite : Value → Seen
opposite = on_flag (λ b. flag (not b))

-- the number with the other sign (Java Language Specification, "Unary Minus Operator -")
abbrev pub negative : ℕ → Value → Seen
negative w = on_number (λ z. number w (neg_ℤ z))

-- whether two truth values are the same (JML Reference Manual, "Equivalence and Inequivalence Operators")
abbrev pub equivalent : Value → Value → Seen
equivalent (Flag a) (Flag b) = flag (same_flag a b)
equivalent _ _ = Out

-- what an operator that evaluates both operands makes of their values
abbrev pub operated : Op → ℕ → Value → Value → Seen
operated op.Add w = on_numbers (λ x y. number w (x +ℤ y))
operated op.Sub w = on_numbers (λ x y. number w (x -ℤ y))
operated op.Mul w = on_numbers (λ x y. number w (x *ℤ y))
operated op.Eq w = same
operated op.Ne w = λ a b. with_value (same a b) opposite
operated op.Lt w = on_numbers (λ x y. flag (int_lt x y))
operated op.Le w = on_numbers (λ x y. flag (int_le x y))
operated op.Gt w = on_numbers (λ x y. flag (int_lt y x))
operated op.Ge w = on_numbers (λ x y. flag (int_le y x))
operated op.Iff w = equivalent
operated op.And w = λ a b. Out
operated op.Or w = λ a b. Out
operated op.Implies w = λ a b. Out

-- Expressions of code, lowered. (This project's own.)
use Rattle.std.specs.Prelude.{ℕ, ◌+◌, Bool, true, false, not, ◌||◌, List, [], ◌∷◌, ◌++◌, slice_get, Option, Some, None}
use Rattle.std.specs.Option.{option_map_or}
use Rattle.taco_unit.specs.declared.kind.Kind.{Kind}
use Rattle.taco_unit.specs.declared.kind.Kind.TheVariants.{Int, Flag, Ref}
use Rattle.taco_unit.specs.declared.expr.Op.{Op}
use Rattle.taco_unit.specs.declared.expr.Op.TheVariants as op
use Rattle.taco_unit.specs.declared.expr.Expr.{Expr, fold-Expr}
use Rattle.taco_unit.specs.declared.expr.Call.{Call, fold-Call}
use Rattle.taco_unit.specs.declared.expr.Expr.TheOpen.{Expr-F, Call-F}
use Rattle.taco_unit.specs.Well.{param_kinds, result_kind}
use Rattle.heap_core.specs.declared.value.Value.TheVariants as v
use Rattle.dyn_core.specs.declared.prog.Act.{Act}
use Rattle.dyn_core.specs.declared.prog.Act.TheVariants.{Copy, Const, Sum, Diff, Product, Same, Below, Read, Make}
use Rattle.dyn_plan.specs.declared.plan.Plan.{Plan}
use Rattle.dyn_plan.specs.declared.plan.Plan.TheVariants as l
use Rattle.dyn_plan.specs.Places.{Ground, Spots, slot, behind, zero_number, flag_of, is_receiver, first_kind, later_kinds}
use Rattle.dyn_plan.specs.Guards.{Lowered, guarded, nowhere, at_once, in_place, null_at, through}

-- an expression: its kind in a frame, where it has one; and how it is lowered where this kind is wanted, in a
-- frame, with the first free row
pub record Low : Type 0 where
  pub kind : Spots → Option Kind
  pub low : Kind → Spots → ℕ → Lowered

-- a call: the kind of what it gives, and how it is lowered where a value is wanted or not
pub record LowCall : Type 0 where
  pub kind : Option Kind
  pub low : Bool → Spots → ℕ → Lowered

-- a method that is inlined: its number, the variables of its receiver and of its arguments, whether a value is
-- wanted of it, the frame of the caller, and the first free row
abbrev pub Inline : Type 0
Inline = ℕ → Option ℕ → List ℕ → Bool → Spots → ℕ → Lowered

-- ## kinds

abbrev pub kind_or : Option Kind → Kind → Kind
kind_or k other = option_map_or (λ x. x) k other

-- the class that declares a field, and the kind of the field
abbrev pub class_of_field : Ground → ℕ → ℕ
class_of_field g f = option_map_or (λ d. d.class) (slice_get g.unit.fields f) 0

abbrev pub kind_of_field : Ground → ℕ → Kind
kind_of_field g f = option_map_or (λ d. d.kind) (slice_get g.unit.fields f) Int

abbrev pub class_of_method : Ground → ℕ → ℕ
class_of_method g m = option_map_or (λ d. d.class) (slice_get g.unit.methods m) 0

abbrev pub kinds_of_params : Ground → ℕ → List Kind
kinds_of_params g m = option_map_or param_kinds (slice_get g.unit.methods m) []

abbrev pub kind_of_result : Ground → ℕ → Option Kind
kind_of_result g m = option_map_or result_kind (slice_get g.unit.methods m) None

abbrev pub kind_of_op : Op → Kind
kind_of_op op.Add = Int
kind_of_op op.Sub = Int
kind_of_op op.Mul = Int
kind_of_op o = Flag

-- the kind of two operands that are compared, of which one may be null alone
abbrev pub common_kind : Option Kind → Option Kind → Kind
common_kind (Some k) other = k
common_kind None other = kind_or other (Ref 0)

-- the kind that is wanted of the operands
abbrev pub operand_kind : Op → Spots → Low → Low → Kind
operand_kind op.Eq f a c = common_kind (a.kind f) (c.kind f)
operand_kind op.Ne f a c = common_kind (a.kind f) (c.kind f)
operand_kind op.And f a c = Flag
operand_kind op.Or f a c = Flag
operand_kind op.Implies f a c = Flag
operand_kind op.Iff f a c = Flag
operand_kind o f a c = Int

-- ## operators

-- what an operator makes of the values at x and y, at the variable r; t is a variable that is free
abbrev pub operation : Ground → Op → ℕ → ℕ → ℕ → ℕ → List Plan
operation g op.Add r t x y = l.Do (Sum r x y) ∷ []
operation g op.Sub r t x y = l.Do (Diff r x y) ∷ []
operation g op.Mul r t x y = l.Do (Product r x y) ∷ []
operation g op.Eq r t x y = l.Do (Same r x y) ∷ []
operation g op.Ne r t x y = l.Do (Same r x y) ∷ l.Do (Same r r (flag_of g false)) ∷ []
operation g op.Lt r t x y = l.Do (Below r x y) ∷ []
operation g op.Le r t x y = l.Do (Below r y x) ∷ l.Do (Same r r (flag_of g false)) ∷ []
operation g op.Gt r t x y = l.Do (Below r y x) ∷ []
operation g op.Ge r t x y = l.Do (Below r x y) ∷ l.Do (Same r r (flag_of g false)) ∷ []
operation g op.Iff r t x y = l.Do (Same t x (flag_of g true)) ∷ l.Do (Same r t y) ∷ []
operation g o r t x y = l.Fail ∷ []

-- the first row that is free of both operands
abbrev pub behind_both : Ground → ℕ → Lowered → Lowered → ℕ
behind_both g b x y = behind g (behind g b x.place) y.place

-- both operands, and then the operation
abbrev pub after_both : Ground → Op → Spots → ℕ → Lowered → Lowered → Lowered
after_both g o f b x y = record {
  place = b + slot g (kind_of_op o);
  steps = x.steps ++ (guarded f x.throws y.steps ++ guarded f (x.throws || y.throws) (operation g o (b + slot g (kind_of_op o)) (behind_both g b x y + 1) x.place y.place));
  throws = x.throws || y.throws;
}

-- the value at y, where it is a truth value, at r
abbrev pub as_truth : Ground → Spots → ℕ → Lowered → List Plan
as_truth g f r y = y.steps ++ guarded f y.throws (l.Do (Same r y.place (flag_of g true)) ∷ [])

-- `&&` and `||`: the right operand is looked at only where the left one does not decide
abbrev pub short : Ground → Spots → ℕ → Lowered → Bool → List Plan → List Plan → Lowered
short g f b x throws taken other =
    record { place = b + 1; steps = x.steps ++ guarded f x.throws (l.If x.place taken other ∷ []); throws = x.throws || throws }

-- what two operands make, in a frame with b as the first free row
abbrev pub combined_low : Ground → Op → Low → Low → Spots → ℕ → Lowered
combined_low g op.And a c f b = short g f b (a.low Flag f b) (c.low Flag f b).throws (as_truth g f (b + 1) (c.low Flag f b)) (l.Do (Const (b + 1) (v.Flag false)) ∷ [])
combined_low g op.Or a c f b = short g f b (a.low Flag f b) (c.low Flag f b).throws (l.Do (Const (b + 1) (v.Flag true)) ∷ []) (as_truth g f (b + 1) (c.low Flag f b))
combined_low g o a c f b =
    after_both g o f b (a.low (operand_kind o f a c) f b) (c.low (operand_kind o f a c) f (behind g b (a.low (operand_kind o f a c) f b).place))

-- one operand, and then an action on it that gives a value at x
abbrev pub after_one : Spots → Lowered → ℕ → Act → Lowered
after_one f x r act = record { place = r; steps = x.steps ++ guarded f x.throws (l.Do act ∷ []); throws = x.throws }

-- a field is read
abbrev pub read_low : Ground → ℕ → Spots → ℕ → Lowered → Lowered
read_low g i f b x = record {
  place = b + slot g (kind_of_field g i);
  steps = x.steps ++ guarded f x.throws (through g f (behind g b x.place) (class_of_field g i) x.place (l.Do (Read (b + slot g (kind_of_field g i)) x.place i) ∷ []));
  throws = x.throws || not (is_receiver f x.place);
}

-- a variable that is in a frame
abbrev pub found : ℕ → Option ℕ → Lowered
found b (Some x) = in_place x
found b None = nowhere b

-- the receiver; without one it is null
abbrev pub this_low : Ground → Kind → Spots → ℕ → Option ℕ → Lowered
this_low g k f b (Some x) = in_place x
this_low g k f b None = null_at g b k

-- ## calls

-- the arguments of a call: their variables, the steps, whether any of them or what came before can throw, and the
-- first free row
pub record Arguments : Type 0 where
  pub places : List ℕ
  pub steps : List Plan
  pub throws : Bool
  pub free : ℕ

-- one more argument in front
abbrev pub with_first : Spots → Bool → Lowered → Arguments → Arguments
with_first f t x rest =
    record { places = x.place ∷ rest.places; steps = guarded f t x.steps ++ rest.steps; throws = rest.throws; free = rest.free }

-- from left to right, where kinds are wanted and something before can have thrown or not
abbrev pub arguments_low : Ground → List Low → List Kind → Bool → Spots → ℕ → Arguments
arguments_low g [] ks t f b = record { places = []; steps = []; throws = t; free = b }
arguments_low g (a ∷ as_) ks t f b =
    with_first f t (a.low (first_kind ks) f b) (arguments_low g as_ (later_kinds ks) (t || (a.low (first_kind ks) f b).throws) f (behind g b (a.low (first_kind ks) f b).place))

-- the target of a call
pub record Target : Type 0 where
  pub place : Option ℕ
  pub steps : List Plan
  pub throws : Bool
  pub free : ℕ

abbrev pub target_low : Ground → Option Low → ℕ → Spots → ℕ → Target
target_low g None class f b = record { place = None; steps = []; throws = false; free = b }
target_low g (Some a) class f b = record {
  place = Some (a.low (Ref class) f b).place;
  steps = (a.low (Ref class) f b).steps;
  throws = (a.low (Ref class) f b).throws;
  free = behind g b (a.low (Ref class) f b).place;
}

-- the method behind the test of its target for null
abbrev pub entered_low : Ground → Spots → ℕ → ℕ → Option ℕ → List Plan → List Plan
entered_low g f b class None steps = steps
entered_low g f b class (Some x) steps = through g f b class x steps

-- the target can be null
abbrev pub can_be_null : Spots → Option ℕ → Bool
can_be_null f None = false
can_be_null f (Some x) = not (is_receiver f x)

-- what a method gives is copied, where it is wanted
abbrev pub with_value_at : Bool → ℕ → Lowered → List Plan
with_value_at true r x = x.steps ++ (l.Do (Copy r x.place) ∷ [])
with_value_at false r x = x.steps

-- the method that is inlined, once its target and arguments have their values
abbrev pub run_low : Ground → Spots → ℕ → ℕ → Bool → Target → Arguments → Lowered → ℕ → Lowered
run_low g f b m wanted target args inlined r = record {
  place = r;
  steps = target.steps ++ (args.steps ++ guarded f args.throws (entered_low g f args.free (class_of_method g m) target.place (with_value_at wanted r inlined)));
  throws = args.throws || can_be_null f target.place || inlined.throws;
}

-- its target, then its arguments, then the test for null, then the method
abbrev pub with_arguments : Ground → Inline → ℕ → Bool → Spots → ℕ → Target → Arguments → Lowered
with_arguments g inline m wanted f b target args =
    run_low g f b m wanted target args (inline m target.place args.places wanted f args.free) (b + slot g (kind_or (kind_of_result g m) Int))

abbrev pub with_target : Ground → Inline → ℕ → List Low → Bool → Spots → ℕ → Target → Lowered
with_target g inline m args wanted f b target =
    with_arguments g inline m wanted f b target (arguments_low g args (kinds_of_params g m) target.throws f target.free)

abbrev pub called_low : Ground → Inline → Call-F Low LowCall (Unit {0}) (Unit {0}) → LowCall
called_low g inline c = record {
  kind = kind_of_result g c.method;
  low = λ wanted f b. with_target g inline c.method c.args wanted f b (target_low g c.target (class_of_method g c.method) f b);
}

-- ## all forms

-- the kind by cases on the form
abbrev pub kind_step : Ground → Expr-F Low LowCall (Unit {0}) (Unit {0}) → Spots → Option Kind
kind_step g (Expr-F.Num z) f = Some Int
kind_step g (Expr-F.Flag b) f = Some Flag
kind_step g Expr-F.This f = Some (Ref f.class)
kind_step g (Expr-F.Local i) f = slice_get f.kinds i
kind_step g (Expr-F.Read a i) f = Some (kind_of_field g i)
kind_step g (Expr-F.Neg a) f = Some Int
kind_step g (Expr-F.Not a) f = Some Flag
kind_step g (Expr-F.Bin o a c) f = Some (kind_of_op o)
kind_step g (Expr-F.New c) f = Some (Ref c)
kind_step g (Expr-F.Call c) f = c.kind
kind_step g _ f = None

-- the lowering by cases on the form; forms that do not stand in code have no following state
abbrev pub low_step : Ground → Expr-F Low LowCall (Unit {0}) (Unit {0}) → Kind → Spots → ℕ → Lowered
low_step g (Expr-F.Num z) k f b = at_once b (Const b (v.Num z))
low_step g (Expr-F.Flag x) k f b = in_place (flag_of g x)
low_step g Expr-F.Null k f b = null_at g b k
low_step g Expr-F.This k f b = this_low g k f b f.this
low_step g (Expr-F.Local i) k f b = found b (slice_get f.locals i)
low_step g (Expr-F.Read a i) k f b = read_low g i f b (a.low (Ref (class_of_field g i)) f b)
low_step g (Expr-F.Neg a) k f b = after_one f (a.low Int f b) b (Diff b (zero_number g) (a.low Int f b).place)
low_step g (Expr-F.Not a) k f b = after_one f (a.low Flag f b) (b + 1) (Same (b + 1) (a.low Flag f b).place (flag_of g false))
low_step g (Expr-F.Bin o a c) k f b = combined_low g o a c f b
low_step g (Expr-F.New c) k f b = at_once (b + slot g (Ref c)) (Make (b + slot g (Ref c)) c)
low_step g (Expr-F.Call c) k f b = c.low true f b
low_step g _ k f b = nowhere b

abbrev pub expr_step : Ground → Expr-F Low LowCall (Unit {0}) (Unit {0}) → Low
expr_step g x = record { kind = kind_step g x; low = low_step g x }

-- an expression of code, where calls are inlined so
abbrev pub low_expr : Ground → Inline → Expr → Low
low_expr g inline = fold-Expr Low LowCall (Unit {0}) (Unit {0}) (expr_step g) (called_low g inline) (λ q. tt) (λ r. tt)

-- a call
abbrev pub low_call : Ground → Inline → Call → LowCall
low_call g inline = fold-Call Low LowCall (Unit {0}) (Unit {0}) (expr_step g) (called_low g inline) (λ q. tt) (λ r. tt)

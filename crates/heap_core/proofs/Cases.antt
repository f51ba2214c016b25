-- Worked rows: what clauses and statements give in small heaps.
use Rattle.std.proofs.Common.{◌≡◌, ℕ, true, false, List, [], ◌∷◌, ◌++◌, Some, None, refl}
use Rattle.std.specs.Prelude.{ℤ, pos, negsuc}
use Rattle.taco_unit.specs.declared.kind.Kind.TheVariants.{Int, Ref}
use Rattle.taco_unit.specs.declared.expr.Op.TheVariants as op
use Rattle.taco_unit.specs.declared.expr.Expr.{Expr}
use Rattle.taco_unit.specs.declared.expr.Expr.TheVariants as e
use Rattle.taco_unit.specs.declared.expr.Quant.{roll-Quant}
use Rattle.taco_unit.specs.declared.expr.Reach.{Reach, roll-Reach}
use Rattle.taco_unit.specs.declared.stmt.Stmt.TheVariants as s
use Rattle.taco_unit.specs.declared.unit.ClassDef.{ClassDef}
use Rattle.heap_core.specs.declared.value.Value.{Value}
use Rattle.heap_core.specs.declared.value.Value.TheVariants as v
use Rattle.heap_core.specs.declared.value.Object.{Object}
use Rattle.heap_core.specs.declared.value.Seen.TheVariants as seen
use Rattle.heap_core.specs.Posed.{Posed}
use Rattle.heap_core.specs.Heap.{Heap}
use Rattle.heap_core.specs.Eval.{Env, eval}
use Rattle.heap_core.specs.Exec.{Gives, Throws, Leaves, Goes, Raises, Stops, Frame, Memory, exec, code, calls}
use Rattle.heap_core.proofs.EvalForms.{eval_forms}
use Rattle.heap_core.proofs.ExecForms.{code_forms, exec_forms}
use Rattle.heap_core.proofs.RowParts.{call_on}

-- class N { int v; N next; } and its heap of two objects: @0 v=0 next=@1, @1 v=7 next=null
abbrev classes : List ClassDef
classes = record { name = []; fields = 0 ∷ 1 ∷ []; methods = []; invariants = [] } ∷ []

abbrev object : ℤ → Value → Object
object n next = record { class = 0; cells = v.Num n ∷ next ∷ [] }

abbrev two : Heap
two = object (pos 0) (v.Obj 1) ∷ object (pos 7) v.Null ∷ []

-- within 3 objects and 4 bits; locals are null, @0, @1 and @2, which neither heap has; the heap before has @0
-- alone
abbrev env : Env
env = record {
  classes = classes;
  objects = 3;
  ints = 4;
  this = v.Obj 0;
  locals = v.Null ∷ v.Obj 0 ∷ v.Obj 1 ∷ v.Obj 2 ∷ [];
  bound = [];
  result = None;
  heap = two;
  heap_before = object (pos 0) v.Null ∷ [];
}

-- the read of `v` of a local, and of its `next`; a quantifier over the class; a `\reach` along `next`
abbrev v_of : ℕ → Expr
v_of i = e.Read (e.Local i) 0

abbrev all_of : Expr → Expr
all_of body = e.Quant (roll-Quant (record { all = true; class = 0; bound = 0; range = None; body = body }))

abbrev some_of : Expr → Expr → Expr
some_of range body = e.Quant (roll-Quant (record { all = false; class = 0; bound = 0; range = Some range; body = body }))

abbrev reach : ℕ → Reach
reach i = roll-Reach (record { from = e.Local i; class = 0; fields = 1 ∷ [] })

-- `false && x.v == 0` with x null is false; `x.v == 0 && false` is Bad
left_false : eval (e.Bin op.And (e.Flag false) (e.Bin op.Eq (v_of 0) (e.Num (pos 0)))) env ≡ seen.Is (v.Flag false)
left_false = simp eval_forms refl

left_bad : eval (e.Bin op.And (e.Bin op.Eq (v_of 0) (e.Num (pos 0))) (e.Flag false)) env ≡ seen.Bad
left_bad = simp eval_forms refl

-- `true || x.v == 0` and `false ==> x.v == 0` are true
left_true : eval (e.Bin op.Or (e.Flag true) (e.Bin op.Eq (v_of 0) (e.Num (pos 0)))) env ≡ seen.Is (v.Flag true)
left_true = simp eval_forms refl

nothing_asked : eval (e.Bin op.Implies (e.Flag false) (e.Bin op.Eq (v_of 0) (e.Num (pos 0)))) env ≡ seen.Is (v.Flag true)
nothing_asked = simp eval_forms refl

-- the first operand that is Bad or Out decides
bad_first : eval (e.Bin op.Eq (v_of 0) (e.Num (pos 8))) env ≡ seen.Bad
bad_first = simp eval_forms refl

out_first : eval (e.Bin op.Eq (e.Num (pos 8)) (v_of 0)) env ≡ seen.Out
out_first = simp eval_forms refl

-- 4 bits hold -8 to 7: the literals, sums and negations beyond them are Out
least : eval (e.Num (negsuc 7)) env ≡ seen.Is (v.Num (negsuc 7))
least = simp eval_forms refl

below_least : eval (e.Num (negsuc 8)) env ≡ seen.Out
below_least = simp eval_forms refl

no_negation : eval (e.Neg (e.Num (negsuc 7))) env ≡ seen.Out
no_negation = simp eval_forms refl

product_out : eval (e.Bin op.Mul (e.Num (pos 3)) (e.Num (pos 3))) env ≡ seen.Out
product_out = simp eval_forms refl

-- a quantifier with one Out and one Bad instance is Out: of @0 `o.next.v + 1` is Out, of @1 it is Bad
out_before_bad : eval (all_of (e.Bin op.Gt (e.Bin op.Add (e.Read (e.Read (e.Bound 0) 1) 0) (e.Num (pos 1))) (e.Num (pos 0)))) env ≡ seen.Out
out_before_bad = simp eval_forms refl

-- without the sum it is Bad, though the instance of @0 is true
bad_before_true : eval (all_of (e.Bin op.Gt (e.Read (e.Read (e.Bound 0) 1) 0) (e.Num (pos 0)))) env ≡ seen.Bad
bad_before_true = simp eval_forms refl

-- a range keeps the instance from being looked at
some_in_range : eval (some_of (e.Bin op.Ne (e.Read (e.Bound 0) 1) e.Null) (e.Bin op.Eq (e.Read (e.Read (e.Bound 0) 1) 0) (e.Num (pos 7)))) env ≡ seen.Is (v.Flag true)
some_in_range = simp eval_forms refl

-- no object of another class is there: the conjunction of nothing
of_another_class : eval (e.Quant (roll-Quant (record { all = true; class = 1; bound = 0; range = None; body = e.Flag false }))) env ≡ seen.Is (v.Flag true)
of_another_class = simp eval_forms refl

-- inside `\old` a quantifier goes over the objects of the pre-state
before_alone : eval (e.Old (all_of (e.Bin op.Eq (e.Bound 0) (e.Local 1)))) env ≡ seen.Is (v.Flag true)
before_alone = simp eval_forms refl

now_more : eval (all_of (e.Bin op.Eq (e.Bound 0) (e.Local 1))) env ≡ seen.Is (v.Flag false)
now_more = simp eval_forms refl

-- `\old` of a field of an object that the pre-state lacks is Bad
not_there_before : eval (e.Old (v_of 2)) env ≡ seen.Bad
not_there_before = simp eval_forms refl

there_now : eval (v_of 2) env ≡ seen.Is (v.Num (pos 7))
there_now = simp eval_forms refl

-- `\reach` from @0 holds @0 and @1, from @1 it holds @1 alone, from null nothing
reach_both : eval (e.Size (reach 1)) env ≡ seen.Is (v.Num (pos 2))
reach_both = simp eval_forms refl

reach_next : eval (e.Has (reach 1) (e.Local 2)) env ≡ seen.Is (v.Flag true)
reach_next = simp eval_forms refl

not_back : eval (e.Has (reach 2) (e.Local 1)) env ≡ seen.Is (v.Flag false)
not_back = simp eval_forms refl

null_reaches_nothing : eval (e.Size (reach 0)) env ≡ seen.Is (v.Num (pos 0))
null_reaches_nothing = simp eval_forms refl

null_is_not_reached : eval (e.Has (reach 1) (e.Local 0)) env ≡ seen.Is (v.Flag false)
null_is_not_reached = simp eval_forms refl

-- from an object that the heap lacks it holds that one alone
lacking_alone : eval (e.Size (reach 3)) env ≡ seen.Is (v.Num (pos 1))
lacking_alone = simp eval_forms refl

lacking_itself : eval (e.Has (reach 3) (e.Local 3)) env ≡ seen.Is (v.Flag true)
lacking_itself = simp eval_forms refl

-- ## statements, in code over the same classes and heap
abbrev posed : Posed
posed = record {
  unit = record { classes = classes; fields = record { name = []; class = 0; kind = Int; nullable = false } ∷ record { name = []; class = 0; kind = Ref 0; nullable = true } ∷ []; methods = [] };
  method = 0;
  scope = record { objects = 3; ints = 4; loops = 0; calls = 0 };
}

abbrev frame : Frame
frame = record { this = v.Obj 0; locals = v.Null ∷ v.Obj 0 ∷ v.Num (pos 7) ∷ [] }

abbrev memory : Memory
memory = record { heap = two }

-- where no turn is left and the test is true, a loop leaves the scope
no_turn : exec posed (calls posed 0) (s.While (e.Flag true) (s.Block [])) frame memory ≡ Stops
no_turn = simp (code_forms, exec_forms) refl

no_turn_needed : exec posed (calls posed 0) (s.While (e.Flag false) (s.Block [])) frame memory ≡ Goes frame.locals memory
no_turn_needed = simp (code_forms, exec_forms) refl

-- `x.v = e` with x null and e Out leaves the scope, it does not throw; with e in the scope it throws
value_before_null : exec posed (calls posed 0) (s.Write (e.Local 0) 0 (e.Bin op.Add (e.Local 2) (e.Num (pos 1)))) frame memory ≡ Stops
value_before_null = simp (code_forms, exec_forms) refl

null_throws : exec posed (calls posed 0) (s.Write (e.Local 0) 0 (e.Local 2)) frame memory ≡ Raises memory
null_throws = simp (code_forms, exec_forms) refl

-- `x.next.v = e` with x null throws before e leaves the scope
object_before_value : exec posed (calls posed 0) (s.Write (e.Read (e.Local 0) 1) 0 (e.Bin op.Add (e.Local 2) (e.Num (pos 1)))) frame memory ≡ Raises memory
object_before_value = simp (code_forms, exec_forms) refl

-- `y.v--` and `y.v = y.v - 1`
steps_down : exec posed (calls posed 0) (s.StepField (e.Local 1) 0 false) frame memory ≡ Goes frame.locals (record { heap = object (negsuc 0) (v.Obj 1) ∷ object (pos 7) v.Null ∷ [] })
steps_down = simp (code_forms, exec_forms) refl

-- `x.v++` with x null throws
step_throws : exec posed (calls posed 0) (s.StepField (e.Local 0) 0 true) frame memory ≡ Raises memory
step_throws = simp (code_forms, exec_forms) refl

-- `i++` at 7 leaves the scope
step_leaves : exec posed (calls posed 0) (s.StepLocal 2 true) frame memory ≡ Stops
step_leaves = simp exec_forms refl

-- `||` of code does not look at its right operand where the left one is true
right_not_looked_at : code posed (calls posed 0) (e.Bin op.Or (e.Flag true) (e.Bin op.Eq (v_of 0) (e.Num (pos 0)))) frame memory ≡ Gives (v.Flag true) memory
right_not_looked_at = simp code_forms refl

-- of `x.next.m(i + 1)` with x null the target throws before the argument leaves the scope
target_before_argument : code posed (calls posed 0) (e.Call (call_on 0 (e.Read (e.Local 0) 1) (e.Bin op.Add (e.Local 2) (e.Num (pos 1)) ∷ []))) frame memory ≡ Throws memory
target_before_argument = simp code_forms refl

-- of `y.m(x.v, i + 1)` the first argument throws, of `y.m(i + 1, x.v)` it leaves the scope
first_argument_throws : code posed (calls posed 0) (e.Call (call_on 0 (e.Local 1) (v_of 0 ∷ e.Bin op.Add (e.Local 2) (e.Num (pos 1)) ∷ []))) frame memory ≡ Throws memory
first_argument_throws = simp code_forms refl

first_argument_leaves : code posed (calls posed 0) (e.Call (call_on 0 (e.Local 1) (e.Bin op.Add (e.Local 2) (e.Num (pos 1)) ∷ v_of 0 ∷ []))) frame memory ≡ Leaves
first_argument_leaves = simp code_forms refl

-- a `new` object has the next number and begins with 0 and null
new_object : code posed (calls posed 0) (e.New 0) frame memory ≡ Gives (v.Obj 2) (record { heap = two ++ object (pos 0) v.Null ∷ [] })
new_object = simp code_forms refl

-- Worked rows: judgements that hold in place what is asked before a run and after it, in which order, and of
-- which objects. The scope of each is 2 objects, 4 bits, 3 turns and 2 calls.
use Rattle.std.proofs.Common.{◌≡◌, ℕ, Bool, true, false, List, [], ◌∷◌, Option, Some, None, refl}
use Rattle.std.specs.Prelude.{pos}
use Rattle.taco_unit.specs.declared.kind.Kind.{Kind}
use Rattle.taco_unit.specs.declared.kind.Kind.TheVariants.{Int, Flag, Ref}
use Rattle.taco_unit.specs.declared.expr.Op.TheVariants as op
use Rattle.taco_unit.specs.declared.expr.Expr.{Expr}
use Rattle.taco_unit.specs.declared.expr.Expr.TheVariants as e
use Rattle.taco_unit.specs.declared.expr.Quant.{roll-Quant}
use Rattle.taco_unit.specs.declared.stmt.Stmt.{Stmt}
use Rattle.taco_unit.specs.declared.stmt.Stmt.TheVariants as s
use Rattle.taco_unit.specs.declared.unit.FieldDef.{FieldDef}
use Rattle.taco_unit.specs.declared.unit.ParamDef.{ParamDef}
use Rattle.taco_unit.specs.declared.unit.MethodDef.{MethodDef}
use Rattle.heap_core.specs.declared.value.Value.{Value}
use Rattle.heap_core.specs.declared.value.Value.TheVariants as v
use Rattle.heap_core.specs.declared.start.Start.{Start}
use Rattle.heap_core.specs.declared.judged.Part.TheVariants as part
use Rattle.heap_core.specs.declared.judged.Judged.TheVariants.{Outside, NotAsked, Breaks, Meets}
use Rattle.heap_core.specs.Posed.{Posed}
use Rattle.heap_core.specs.Exec.{Gives, Throws, memory_of}
use Rattle.heap_core.specs.Judge.{judged, run_of}
use Rattle.heap_core.proofs.EvalForms.{eval_forms}
use Rattle.heap_core.proofs.ExecForms.{code_forms, exec_forms}
use Rattle.heap_core.proofs.RowParts.{field_of, param_of, method_with, posed_with, call_on, object, start}

-- the first method of a unit of one class with these invariants and fields
abbrev unit_of : List Expr → List FieldDef → List MethodDef → Posed
unit_of invariants fields methods = posed_with invariants fields methods 2 3 2

-- a field that holds a number, one that may hold null, one that must hold an object
abbrev number : FieldDef
number = field_of Int false

abbrev link : FieldDef
link = field_of (Ref 0) true

abbrev held : FieldDef
held = field_of (Ref 0) false

-- a method without parameters and locals: its result, its `ensures` clauses and its statements
abbrev method_of : Option (Kind × Bool) → List Expr → List Stmt → MethodDef
method_of result gives body = method_with false [] result [] [] gives (s.Block body)

-- a static method with a result, without locals
abbrev static_of : List ParamDef → Kind → List Expr → List Expr → List Stmt → MethodDef
static_of params result needs gives body = method_with true params (Some (result, false)) [] needs gives (s.Block body)

-- a field of `this`, or of another object
abbrev own : ℕ → Expr
own f = e.Read e.This f

abbrev is_null : Expr → Expr
is_null x = e.Bin op.Eq x e.Null

-- `x + 1 > 0`, which leaves 4 bits at 7
abbrev rises : Expr → Expr
rises x = e.Bin op.Gt (e.Bin op.Add x (e.Num (pos 1))) (e.Num (pos 0))

-- one object, with these cells: the receiver; and with arguments
abbrev with_args : List Value → List Value → Start
with_args cells args = start (object cells ∷ []) (v.Obj 0) args

abbrev alone : List Value → Start
alone cells = with_args cells []

-- ## class L { nullable L next; invariant next != this; void tie() { next = this; } }
abbrev tie : Posed
tie = unit_of (e.Bin op.Ne (own 0) e.This ∷ []) (link ∷ []) (method_of None [] (s.Write e.This 0 e.This ∷ []) ∷ [])

-- an invariant is asked after the call too
tie_breaks : judged tie (alone (v.Null ∷ [])) ≡ Breaks (part.Invariant 1 0)
tie_breaks = simp (eval_forms, code_forms, exec_forms) refl

-- a heap is good only where the invariants are true
tie_not_asked : judged tie (alone (v.Obj 0 ∷ [])) ≡ NotAsked
tie_not_asked = simp (eval_forms, code_forms, exec_forms) refl

-- ## class N { int v; nullable N next; invariant v > 0; void grow() { next = new N(); } }
abbrev grow : Posed
grow = unit_of (e.Bin op.Gt (own 0) (e.Num (pos 0)) ∷ []) (number ∷ link ∷ []) (method_of None [] (s.Write e.This 1 (e.New 0) ∷ []) ∷ [])

-- the new object's invariant is asked, and it begins with v == 0
grow_breaks : judged grow (alone (v.Num (pos 1) ∷ v.Null ∷ [])) ≡ Breaks (part.Invariant 1 1)
grow_breaks = simp (eval_forms, code_forms, exec_forms) refl

-- ## class N { nullable N a; N b; .. } with these invariants
abbrev pair : List Expr → List Stmt → Posed
pair invariants body = unit_of invariants (link ∷ held ∷ []) (method_of None [] body ∷ [])

-- with void grow() { a = new N(); }
abbrev grow_pair : Expr → Posed
grow_pair invariant = pair (invariant ∷ []) (s.Write e.This 0 (e.New 0) ∷ [])

-- `invariant a == null`: what object 0 breaks comes before what object 1 breaks
objects_in_order : judged (grow_pair (is_null (own 0))) (alone (v.Null ∷ v.Obj 0 ∷ [])) ≡ Breaks (part.Invariant 1 0)
objects_in_order = simp (eval_forms, code_forms, exec_forms) refl

-- `invariant true`: the new object's field b begins with null and must not be null
new_object_lacks : judged (grow_pair (e.Flag true)) (alone (v.Null ∷ v.Obj 0 ∷ [])) ≡ Breaks (part.NonNull 1 1)
new_object_lacks = simp (eval_forms, code_forms, exec_forms) refl

-- `invariant a == null`, with void zap() { b = null; a = this; }
abbrev zap : Posed
zap = pair (is_null (own 0) ∷ []) (s.Write e.This 1 e.Null ∷ s.Write e.This 0 e.This ∷ [])

-- of one object, fields come before invariants
field_before_invariant : judged zap (alone (v.Null ∷ v.Obj 0 ∷ [])) ≡ Breaks (part.NonNull 0 1)
field_before_invariant = simp (eval_forms, code_forms, exec_forms) refl

-- ## class N { N b; .. N f() { b = null; return null; } }, whose result may be null where that is said
abbrev drop : Bool → List Expr → Posed
drop nullable gives = unit_of [] (held ∷ []) (method_of (Some (Ref 0, nullable)) gives (s.Write e.This 0 e.Null ∷ s.Return (Some e.Null) ∷ []) ∷ [])

-- `ensures false`: a clause comes before the result
clause_before_result : judged (drop false (e.Flag false ∷ [])) (alone (v.Obj 0 ∷ [])) ≡ Breaks (part.Ensures 1)
clause_before_result = simp (eval_forms, code_forms, exec_forms) refl

-- no clause: the result comes before the objects
result_before_field : judged (drop false []) (alone (v.Obj 0 ∷ [])) ≡ Breaks part.Result
result_before_field = simp (code_forms, exec_forms) refl

-- no clause, and `nullable N f()`: the field is left
field_is_null : judged (drop true []) (alone (v.Obj 0 ∷ [])) ≡ Breaks (part.NonNull 0 0)
field_is_null = simp (code_forms, exec_forms) refl

-- a heap is good only where the field is not null
field_was_null : judged (drop false []) (alone (v.Null ∷ [])) ≡ NotAsked
field_was_null = refl

-- ## methods that end without `return`: class N { N f() { } }, or int g(), or boolean h()
abbrev ends : Kind → List Expr → Posed
ends result gives = unit_of [] [] (method_of (Some (result, false)) gives [] ∷ [])

-- the result is null, which it must not be
null_by_default : judged (ends (Ref 0) []) (alone []) ≡ Breaks part.Result
null_by_default = simp exec_forms refl

-- `ensures \result == 0`
zero_by_default : judged (ends Int (e.Bin op.Eq e.Result (e.Num (pos 0)) ∷ [])) (alone []) ≡ Meets
zero_by_default = simp (eval_forms, exec_forms) refl

-- `ensures !\result`
false_by_default : judged (ends Flag (e.Not e.Result ∷ [])) (alone []) ≡ Meets
false_by_default = simp (eval_forms, exec_forms) refl

-- ## class I { int v; invariant v + 1 > 0; void up() { v = 7; } }, which ensures false
abbrev up : Posed
up = unit_of (rises (own 0) ∷ []) (number ∷ []) (method_of None (e.Flag false ∷ []) (s.Write e.This 0 (e.Num (pos 7)) ∷ []) ∷ [])

-- an invariant that leaves the scope after the call, before the clause that is not true
leaves_at_the_end : judged up (alone (v.Num (pos 0) ∷ [])) ≡ Outside
leaves_at_the_end = simp (eval_forms, code_forms, exec_forms) refl

-- one that leaves it before the call: Outside, and not NotAsked
leaves_at_the_start : judged up (alone (v.Num (pos 7) ∷ [])) ≡ Outside
leaves_at_the_start = simp (eval_forms, code_forms, exec_forms) refl

-- ## class L { nullable L next; invariant next.next == next; void cut() { next = null; } }
abbrev cut : Posed
cut = unit_of (e.Bin op.Eq (e.Read (own 0) 0) (own 0) ∷ []) (link ∷ []) (method_of None [] (s.Write e.This 0 e.Null ∷ []) ∷ [])

-- an invariant that is Bad after the call is not true
bad_at_the_end : judged cut (alone (v.Obj 0 ∷ [])) ≡ Breaks (part.Invariant 1 0)
bad_at_the_end = simp (eval_forms, code_forms, exec_forms) refl

-- nor is one that is Bad before it
bad_at_the_start : judged cut (alone (v.Null ∷ [])) ≡ NotAsked
bad_at_the_start = simp (eval_forms, code_forms, exec_forms) refl

-- ## class P { static int f(P x, int y) { return 0; } }
abbrev takes : List Expr → Posed
takes needs = unit_of [] [] (static_of (param_of (Ref 0) false ∷ param_of Int false ∷ []) Int needs [] (s.Return (Some (e.Num (pos 0))) ∷ []) ∷ [])

-- an argument must not be null unless its parameter says so
lacks_argument : judged (takes []) (start [] v.Null (v.Null ∷ v.Num (pos 0) ∷ [])) ≡ NotAsked
lacks_argument = refl

-- `requires y + 1 > 0`: that the clause leaves the scope comes before the missing argument
leaves_before_argument : judged (takes (rises (e.Local 1) ∷ [])) (start [] v.Null (v.Null ∷ v.Num (pos 7) ∷ [])) ≡ Outside
leaves_before_argument = simp (eval_forms, code_forms, exec_forms) refl

-- ## static int f(int x) { x = 1; return x; }
abbrev assigns : Expr → Posed
assigns ensured =
    unit_of [] []
    (static_of (param_of Int false ∷ []) Int [] (ensured ∷ []) (s.Set 0 (e.Num (pos 1)) ∷ s.Return (Some (e.Local 0)) ∷ []) ∷ [])

-- `ensures \result == x`: the parameter has the value that it had before
parameter_before : judged (assigns (e.Bin op.Eq e.Result (e.Local 0))) (start [] v.Null (v.Num (pos 0) ∷ [])) ≡ Breaks (part.Ensures 1)
parameter_before = simp (eval_forms, code_forms, exec_forms) refl

-- `ensures x + 1 > 0`: with that value the clause leaves the scope
clause_leaves : judged (assigns (rises (e.Local 0))) (start [] v.Null (v.Num (pos 7) ∷ [])) ≡ Outside
clause_leaves = simp (eval_forms, code_forms, exec_forms) refl

-- ## static int f(int x) { boolean b; int i; return i; }, which ensures \result == 0
abbrev declares : Posed
declares =
    unit_of [] []
    (method_with true (param_of Int false ∷ []) (Some (Int, false)) (Flag ∷ Int ∷ []) [] (e.Bin op.Eq e.Result (e.Num (pos 0)) ∷ []) (s.Block (s.Return (Some (e.Local 2)) ∷ [])) ∷ [])

-- the locals stand behind the parameters, in order
locals_in_order : judged declares (start [] v.Null (v.Num (pos 5) ∷ [])) ≡ Meets
locals_in_order = simp (eval_forms, code_forms, exec_forms) refl

-- ## class N { void run(nullable N t, int k) { t.m(k + 1); } void m(int k) { } }
abbrev run_and_m : List MethodDef
run_and_m =
    method_with false (param_of (Ref 0) true ∷ param_of Int false ∷ []) None [] [] [] (s.Block (s.Run (call_on 1 (e.Local 0) (e.Bin op.Add (e.Local 1) (e.Num (pos 1)) ∷ [])) ∷ []))
    ∷ method_with false (param_of Int false ∷ []) None [] [] [] (s.Block [])
    ∷ []

abbrev calls_on : Posed
calls_on = unit_of [] [] run_and_m

-- an argument that leaves the scope comes before the test of the target for null
argument_before_null : judged calls_on (with_args [] (v.Null ∷ v.Num (pos 7) ∷ [])) ≡ Outside
argument_before_null = simp (code_forms, exec_forms) refl

-- with the argument in the scope, the target throws
target_throws : judged calls_on (with_args [] (v.Null ∷ v.Num (pos 6) ∷ [])) ≡ Breaks part.Thrown
target_throws = simp (code_forms, exec_forms) refl

-- ## class N { nullable N next; int g() { return next.g(); } void run() { int x = g(); next = this; } }
abbrev g_and_run : List MethodDef
g_and_run =
    method_of (Some (Int, false)) [] (s.Return (Some (e.Call (call_on 0 (own 0) []))) ∷ [])
    ∷ method_with false [] None (Int ∷ []) [] [] (s.Block (s.Set 0 (e.Call (call_on 0 e.This [])) ∷ s.Write e.This 0 e.This ∷ []))
    ∷ []

abbrev gets : Posed
gets = record (unit_of [] (link ∷ []) g_and_run) { method = 1 }

-- what a called method throws ends the run of its caller, so that `next` is not set
call_throws : judged gets (alone (v.Null ∷ [])) ≡ Breaks part.Thrown
call_throws = simp (code_forms, exec_forms) refl

call_ends : run_of gets (alone (v.Null ∷ [])) ≡ Throws (memory_of (object (v.Null ∷ []) ∷ []))
call_ends = simp (code_forms, exec_forms) refl

-- ## class N { int v; static boolean f(nullable N x) { return x != null && x.v == 0; } }
abbrev tests : Posed
tests =
    unit_of [] (number ∷ [])
    (static_of (param_of (Ref 0) true ∷ []) Flag [] [] (s.Return (Some (e.Bin op.And (e.Bin op.Ne (e.Local 0) e.Null) (e.Bin op.Eq (e.Read (e.Local 0) 0) (e.Num (pos 0))))) ∷ []) ∷ [])

-- `&&` of code does not look at its right operand where the left one is false
right_not_looked_at : judged tests (start [] v.Null (v.Null ∷ [])) ≡ Meets
right_not_looked_at = simp (code_forms, exec_forms) refl

gives_false : run_of tests (start [] v.Null (v.Null ∷ [])) ≡ Gives (Some (v.Flag false)) (memory_of [])
gives_false = simp (code_forms, exec_forms) refl

-- ## class N { nullable N next; void grow() { next = new N(); } }, which ensures
-- (\forall N n; \old(n.next) == null)
abbrev all_before : Posed
all_before =
    unit_of [] (link ∷ [])
    (method_of None (e.Quant (roll-Quant (record { all = true; class = 0; bound = 0; range = None; body = is_null (e.Old (e.Read (e.Bound 0) 0)) })) ∷ []) (s.Write e.This 0 (e.New 0) ∷ []) ∷ [])

-- the quantifier goes over the objects after the call, of which the new one is Bad in `\old`
new_object_in_old : judged all_before (alone (v.Null ∷ [])) ≡ Breaks (part.Ensures 1)
new_object_in_old = simp (eval_forms, code_forms, exec_forms) refl

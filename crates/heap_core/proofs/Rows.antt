-- Worked rows: units as trees, with what their starts are judged.
use Rattle.std.proofs.Common.{◌≡◌, ℕ, true, false, List, [], ◌∷◌, Some, None, refl}
use Rattle.std.specs.Prelude.{pos}
use Rattle.taco_unit.specs.declared.kind.Kind.TheVariants.{Int, Flag, Ref}
use Rattle.taco_unit.specs.declared.expr.Op.TheVariants as op
use Rattle.taco_unit.specs.declared.expr.Expr.{Expr}
use Rattle.taco_unit.specs.declared.expr.Expr.TheVariants as e
use Rattle.taco_unit.specs.declared.stmt.Stmt.{Stmt}
use Rattle.taco_unit.specs.declared.stmt.Stmt.TheVariants as s
use Rattle.heap_core.specs.declared.value.Value.TheVariants as v
use Rattle.heap_core.specs.declared.start.Start.{Start}
use Rattle.heap_core.specs.declared.judged.Part.TheVariants as part
use Rattle.heap_core.specs.declared.judged.Judged.TheVariants.{Outside, NotAsked, Breaks, Meets}
use Rattle.heap_core.specs.Posed.{Posed}
use Rattle.heap_core.specs.Exec.{Gives}
use Rattle.heap_core.specs.Judge.{judged, run_of}
use Rattle.heap_core.proofs.EvalForms.{eval_forms}
use Rattle.heap_core.proofs.ExecForms.{code_forms, exec_forms}
use Rattle.heap_core.proofs.RowParts.{field_of, param_of, method_with, posed, call_on, object, start}

-- ## static int inc(int x) { return x + 1; }
abbrev inc : Expr → Posed
inc ensured = posed [] (method_with true (param_of Int false ∷ []) (Some (Int, false)) [] [] (ensured ∷ []) (s.Return (Some (e.Bin op.Add (e.Local 0) (e.Num (pos 1))))) ∷ []) 3 3 2

abbrev above_x : Expr
above_x = e.Bin op.Gt e.Result (e.Local 0)

abbrev below_seven : Expr
below_seven = e.Bin op.Lt e.Result (e.Num (pos 7))

-- `ensures \result > x`: at 7 the sum leaves 4 bits, so that nothing is said
inc_seven : judged (inc above_x) (start [] v.Null (v.Num (pos 7) ∷ [])) ≡ Outside
inc_seven = simp (code_forms, exec_forms) refl

inc_six : judged (inc above_x) (start [] v.Null (v.Num (pos 6) ∷ [])) ≡ Meets
inc_six = simp (eval_forms, code_forms, exec_forms) refl

-- `ensures \result < 7`
inc_breaks : judged (inc below_seven) (start [] v.Null (v.Num (pos 6) ∷ [])) ≡ Breaks (part.Ensures 1)
inc_breaks = simp (eval_forms, code_forms, exec_forms) refl

-- ## static int up(boolean go) { int i = 0; while (go && i < 3) { i++; } return i; }, which ensures \result < 1
abbrev up_body : Stmt
up_body =
    s.Block
    (s.Set 1 (e.Num (pos 0)) ∷ s.While (e.Bin op.And (e.Local 0) (e.Bin op.Lt (e.Local 1) (e.Num (pos 3)))) (s.StepLocal 1 true) ∷ s.Return (Some (e.Local 1)) ∷ [])

abbrev up : ℕ → Posed
up loops = posed [] (method_with true (param_of Flag false ∷ []) (Some (Int, false)) (Int ∷ []) [] (e.Bin op.Lt e.Result (e.Num (pos 1)) ∷ []) up_body ∷ []) 3 loops 2

-- two turns are not enough, three are
up_two : judged (up 2) (start [] v.Null (v.Flag true ∷ [])) ≡ Outside
up_two = simp (code_forms, exec_forms) refl

up_three : judged (up 3) (start [] v.Null (v.Flag true ∷ [])) ≡ Breaks (part.Ensures 1)
up_three = simp (eval_forms, code_forms, exec_forms) refl

up_none : judged (up 0) (start [] v.Null (v.Flag false ∷ [])) ≡ Meets
up_none = simp (eval_forms, code_forms, exec_forms) refl

-- ## class N { nullable N next; void grow() { next = new N(); } }, which requires and ensures next == null
abbrev next_of : Expr → Expr
next_of x = e.Read x 0

abbrev is_last : Expr → Expr
is_last x = e.Bin op.Eq (next_of x) e.Null

abbrev grow : ℕ → Posed
grow objects = posed (field_of (Ref 0) true ∷ []) (method_with false [] None [] (is_last e.This ∷ []) (is_last e.This ∷ []) (s.Write e.This 0 (e.New 0)) ∷ []) objects 3 2

abbrev alone : Start
alone = start (object (v.Null ∷ []) ∷ []) (v.Obj 0) []

-- one object leaves no room, two do
grow_one : judged (grow 1) alone ≡ Outside
grow_one = simp (eval_forms, code_forms, exec_forms) refl

grow_two : judged (grow 2) alone ≡ Breaks (part.Ensures 1)
grow_two = simp (eval_forms, code_forms, exec_forms) refl

-- the end heap: the new object has the next number
grow_ends : run_of (grow 2) alone ≡ Gives None (record { heap = object (v.Obj 1 ∷ []) ∷ object (v.Null ∷ []) ∷ [] })
grow_ends = simp (code_forms, exec_forms) refl

-- ## the same class with N self() { return this; }, which ensures \result.next.next == null: a clause that
-- reads through null is not true
abbrev itself : Posed
itself = posed (field_of (Ref 0) true ∷ []) (method_with false [] (Some (Ref 0, false)) [] (is_last e.This ∷ []) (is_last (next_of e.Result) ∷ []) (s.Return (Some e.This)) ∷ []) 1 3 2

undefined_is_not_true : judged itself alone ≡ Breaks (part.Ensures 1)
undefined_is_not_true = simp (eval_forms, code_forms, exec_forms) refl

-- ## class C { int v; static int get(nullable C x) { return x.v; } }
abbrev get : List Expr → Posed
get needed = posed (field_of Int false ∷ []) (method_with true (param_of (Ref 0) true ∷ []) (Some (Int, false)) [] needed [] (s.Return (Some (e.Read (e.Local 0) 0))) ∷ []) 1 3 2

-- null throws; `requires x.v > 0` is undefined there, so that the start is not asked
get_throws : judged (get []) (start [] v.Null (v.Null ∷ [])) ≡ Breaks part.Thrown
get_throws = simp (code_forms, exec_forms) refl

get_not_asked : judged (get (e.Bin op.Gt (e.Read (e.Local 0) 0) (e.Num (pos 0)) ∷ [])) (start [] v.Null (v.Null ∷ [])) ≡ NotAsked
get_not_asked = simp (eval_forms, code_forms, exec_forms) refl

-- ## class P { int v; void bump(P a, P b) { a.v = b.v + 1; } }, which requires a == this && b == this && v == 0
-- and ensures a.v == \old(b.v)
abbrev bump : Posed
bump =
    posed (field_of Int false ∷ [])
    (method_with false (param_of (Ref 0) false ∷ param_of (Ref 0) false ∷ []) None []
    (e.Bin op.And (e.Bin op.And (e.Bin op.Eq (e.Local 0) e.This) (e.Bin op.Eq (e.Local 1) e.This)) (e.Bin op.Eq (e.Read e.This 0) (e.Num (pos 0))) ∷ [])
    (e.Bin op.Eq (e.Read (e.Local 0) 0) (e.Old (e.Read (e.Local 1) 0)) ∷ [])
    (s.Write (e.Local 0) 0 (e.Bin op.Add (e.Read (e.Local 1) 0) (e.Num (pos 1)))) ∷ [])
    2
    3
    2

abbrev one_for_all : Start
one_for_all = start (object (v.Num (pos 0) ∷ []) ∷ []) (v.Obj 0) (v.Obj 0 ∷ v.Obj 0 ∷ [])

bump_breaks : judged bump one_for_all ≡ Breaks (part.Ensures 1)
bump_breaks = simp (eval_forms, code_forms, exec_forms) refl

bump_ends : run_of bump one_for_all ≡ Gives None (record { heap = object (v.Num (pos 1) ∷ []) ∷ [] })
bump_ends = simp (code_forms, exec_forms) refl

-- ## static int f(int x) { return x; }, at x = 7 in 4 bits
abbrev below : Expr
below = e.Bin op.Lt (e.Local 0) (e.Num (pos 7))

abbrev rises : Expr
rises = e.Bin op.Gt (e.Bin op.Add (e.Local 0) (e.Num (pos 1))) (e.Num (pos 0))

abbrev same_number : Expr → Posed
same_number needed = posed [] (method_with true (param_of Int false ∷ []) (Some (Int, false)) [] (needed ∷ []) [] (s.Return (Some (e.Local 0))) ∷ []) 3 3 2

-- `requires x < 7 && x + 1 > 0`: the right operand is not looked at
left_decides : judged (same_number (e.Bin op.And below rises)) (start [] v.Null (v.Num (pos 7) ∷ [])) ≡ NotAsked
left_decides = simp (eval_forms, code_forms, exec_forms) refl

-- `requires x + 1 > 0 && x < 7`: the sum leaves 4 bits
sum_leaves : judged (same_number (e.Bin op.And rises below)) (start [] v.Null (v.Num (pos 7) ∷ [])) ≡ Outside
sum_leaves = simp (eval_forms, code_forms, exec_forms) refl

-- ## calls, in class N with a method void run(N x) whose body is x.run(x)
abbrev runs : Stmt → ℕ → Posed
runs body calls = posed (field_of (Ref 0) true ∷ []) (method_with false (param_of (Ref 0) true ∷ []) None [] [] [] body ∷ []) 1 3 calls

abbrev run_on : Expr → Stmt
run_on x = s.Run (call_on 0 x (x ∷ []))

-- a call of itself without end is nested too deep, at every depth
too_deep : judged (runs (run_on (e.Local 0)) 2) (start (object (v.Null ∷ []) ∷ []) (v.Obj 0) (v.Obj 0 ∷ [])) ≡ Outside
too_deep = simp (code_forms, exec_forms) refl

-- null is looked at before the depth: with no call left, a call on null throws
null_before_depth : judged (runs (run_on (e.Local 0)) 0) (start (object (v.Null ∷ []) ∷ []) (v.Obj 0) (v.Null ∷ [])) ≡ Breaks part.Thrown
null_before_depth = simp (code_forms, exec_forms) refl

-- the same with void run(N x) { if (x != null) { x.run(null); } }
abbrev run_once : Stmt
run_once = s.If (e.Bin op.Ne (e.Local 0) e.Null) (s.Run (call_on 0 (e.Local 0) (e.Null ∷ []))) (s.Block [])

-- one call is too deep where none may be nested, and not where one may be
no_call_left : judged (runs run_once 0) (start (object (v.Null ∷ []) ∷ []) (v.Obj 0) (v.Obj 0 ∷ [])) ≡ Outside
no_call_left = simp (code_forms, exec_forms) refl

one_call_left : judged (runs run_once 1) (start (object (v.Null ∷ []) ∷ []) (v.Obj 0) (v.Obj 0 ∷ [])) ≡ Meets
one_call_left = simp (code_forms, exec_forms) refl

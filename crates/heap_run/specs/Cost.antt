-- The most steps that a machine can take. It bounds a run from above, and is computed nowhere.
use Rattle.std.specs.Prelude.{ℕ, zero, suc, ◌+◌, ◌*◌, List, fold, sum_by, sum, Some, None}
use Rattle.std.specs.Option.{option_map_or}
use Rattle.taco_unit.specs.declared.expr.Expr.{Expr, fold-Expr}
use Rattle.taco_unit.specs.declared.expr.Call.{Call, fold-Call}
use Rattle.taco_unit.specs.declared.expr.Expr.TheOpen.{Expr-F, Call-F}
use Rattle.taco_unit.specs.declared.stmt.Stmt.{Stmt, fold-Stmt}
use Rattle.taco_unit.specs.declared.stmt.Stmt.TheOpen.{Stmt-F}
use Rattle.heap_core.specs.Posed.{Posed}
use Rattle.heap_run.specs.declared.machine.Wait.{Wait}
use Rattle.heap_run.specs.declared.machine.Wait.TheVariants as w

-- of a call whose arguments these are, where a called method costs `call`
abbrev pub step_call : ℕ → Call-F ℕ ℕ (Unit {0}) (Unit {0}) → ℕ
step_call call c = option_map_or (λ t. t) c.target 0 + sum c.args + call + 2

-- of an expression, by cases on its form
abbrev pub step_code : Expr-F ℕ ℕ (Unit {0}) (Unit {0}) → ℕ
step_code (Expr-F.Read a f) = a + 2
step_code (Expr-F.Neg a) = a + 2
step_code (Expr-F.Not a) = a + 2
step_code (Expr-F.Bin o a b) = a + b + 2
step_code (Expr-F.Call c) = c
step_code _ = 2

unfoldable pub cost_of_code : ℕ → Expr → ℕ
cost_of_code call = fold-Expr ℕ ℕ (Unit {0}) (Unit {0}) step_code (step_call call) (λ q. tt) (λ r. tt)

unfoldable pub cost_of_call : ℕ → Call → ℕ
cost_of_call call = fold-Call ℕ ℕ (Unit {0}) (Unit {0}) step_code (step_call call) (λ q. tt) (λ r. tt)

-- of a statement, by cases on its form
abbrev pub step_stmt : Posed → ℕ → Stmt-F ℕ → ℕ
step_stmt p call (Stmt-F.Block parts) = sum parts + 2
step_stmt p call (Stmt-F.Set i a) = cost_of_code call a + 2
step_stmt p call (Stmt-F.Write a f b) = cost_of_code call a + cost_of_code call b + 2
step_stmt p call (Stmt-F.StepLocal i up) = 2
step_stmt p call (Stmt-F.StepField a f up) = cost_of_code call a + 2
step_stmt p call (Stmt-F.If a s t) = cost_of_code call a + s + t + 2
step_stmt p call (Stmt-F.While a s) = cost_of_code call a + p.scope.loops * (cost_of_code call a + s) + 2
step_stmt p call (Stmt-F.Return None) = 2
step_stmt p call (Stmt-F.Return (Some a)) = cost_of_code call a + 2
step_stmt p call (Stmt-F.Run c) = cost_of_call call c

unfoldable pub cost_of_stmt : Posed → ℕ → Stmt → ℕ
cost_of_stmt p call = fold-Stmt ℕ (step_stmt p call)

-- of a called method, where calls may be nested so deep
unfoldable pub call_cost : Posed → ℕ → ℕ
call_cost p zero = 0
call_cost p (suc d) = sum_by (λ d'. cost_of_stmt p (call_cost p d) d'.body) p.unit.methods

-- of all arguments
unfoldable pub cost_of_rest : ℕ → List Expr → ℕ
cost_of_rest call = sum_by (cost_of_code call)

-- of a loop with so many turns left, before its test is known
unfoldable pub cost_of_turns : Posed → ℕ → ℕ → Expr → Stmt → ℕ
cost_of_turns p call n test body = n * (cost_of_code call test + cost_of_stmt p call body) + 1

-- of what waits, and of all that waits below it, where calls may be nested so deep
abbrev pub waits : Posed → (ℕ → ℕ) → Wait → ℕ → ℕ
waits p below (w.Right o b) d = cost_of_code (call_cost p d) b.now + 1 + below d
waits p below (w.Target method rest wanted) d = cost_of_rest (call_cost p d) rest.now + call_cost p d + 1 + below d
waits p below (w.Argument method target args rest wanted) d = cost_of_rest (call_cost p d) rest.now + call_cost p d + 1 + below d
waits p below (w.Write f b) d = cost_of_code (call_cost p d) b.now + 1 + below d
waits p below (w.Branch s t) d = cost_of_stmt p (call_cost p d) s.now + cost_of_stmt p (call_cost p d) t.now + 1 + below d
waits p below (w.Turn n test body) d = cost_of_turns p (call_cost p d) n test.now body.now + below d
waits p below (w.Rest ss) d = sum_by (cost_of_stmt p (call_cost p d)) ss.now + 1 + below d
waits p below (w.Again n test body) d =
    cost_of_code (call_cost p d) test.now + cost_of_turns p (call_cost p d) n test.now body.now + below d
waits p below (w.Caller caller otherwise wanted) d = 1 + below caller.left
waits p below _ d = 1 + below d

unfoldable pub all_waiting : Posed → List Wait → ℕ → ℕ
all_waiting p = fold (waits p) (λ d. 0)

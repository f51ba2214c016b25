-- What a machine comes to.
use Rattle.std.specs.Prelude.{◌≡◌, ℕ, suc, ◌+◌, ◌-◌, ◌<◌, Bool, List, map, sum_by, slice_get, Option, Some, option_map}
use Rattle.std.specs.Option.{option_map_or}
use Rattle.std.specs.Borrow.{Bor}
use Rattle.taco_unit.specs.declared.expr.Op.{Op}
use Rattle.taco_unit.specs.declared.expr.Expr.{Expr}
use Rattle.taco_unit.specs.declared.expr.Call.{Call}
use Rattle.taco_unit.specs.declared.stmt.Stmt.{Stmt}
use Rattle.taco_unit.specs.declared.unit.MethodDef.{MethodDef}
use Rattle.heap_core.specs.declared.value.Value.{Value}
use Rattle.heap_core.specs.Posed.{Posed}
use Rattle.heap_core.specs.Exec.{Memory, Ends, Exit, Goes, then_with, on_object, gives_in, read, write, make, entered, call_of, after, in_turn, set_local, stepped, step_field, give_back, run_body, calls}
use Rattle.heap_run.specs.declared.machine.Activation.{Activation}
use Rattle.heap_run.specs.declared.machine.Machine.{Machine}
use Rattle.heap_run.specs.declared.machine.Wait.{Wait}
use Rattle.heap_run.specs.declared.machine.Wait.TheVariants as w
use Rattle.heap_run.specs.declared.machine.Outcome.{Outcome}
use Rattle.heap_run.specs.declared.machine.Task.{Task}
use Rattle.heap_run.specs.declared.machine.Task.TheVariants as task
use Rattle.heap_run.specs.Onward.{Whole, Onward, frame_of, coded, done, exits, given_back, arguments, onward, all_onward}
use Rattle.heap_run.specs.Runs.{ends_with}
use Rattle.heap_run.specs.Cost.{cost_of_code, cost_of_call, cost_of_rest, cost_of_stmt, call_cost, waits, all_waiting}

-- the heap of a machine
abbrev pub memory : Machine → Memory
memory m = record { heap = m.heap.items }

-- how a run goes on from all that waits
abbrev pub on_from : Posed → Machine → Onward
on_from p m = all_onward p m.waits

-- what a machine comes to from an expression, from a statement, from a task
abbrev pub evaluated : Posed → Machine → Expr → Whole
evaluated p m e = then_with (coded p m.frame e (frame_of m.frame) (memory m)) ((on_from p m).value m.frame)

abbrev pub executed : Posed → Machine → Stmt → Whole
executed p m s = exits (on_from p m) m.frame (done p m.frame s (frame_of m.frame) (memory m))

abbrev pub comes_to : Posed → Machine → Task → Whole
comes_to p m (task.Evaluate e) = evaluated p m e.now
comes_to p m (task.Execute s) = executed p m s.now
comes_to p m (task.Give v) = (on_from p m).value m.frame v (memory m)
comes_to p m task.Go = (on_from p m).ended m.frame (memory m)
comes_to p m (task.Return v) = (on_from p m).returned v (memory m)
comes_to p m (task.End o) = ends_with o (memory m)

-- the most steps of all that waits
abbrev pub waiting : Posed → Machine → ℕ
waiting p m = all_waiting p m.waits m.frame.left

-- the most steps that a machine can take for a task
abbrev pub cost : Posed → Machine → Task → ℕ
cost p m (task.Evaluate e) = cost_of_code (call_cost p m.frame.left) e.now + waiting p m
cost p m (task.Execute s) = cost_of_stmt p (call_cost p m.frame.left) s.now + waiting p m
cost p m (task.Give v) = 1 + waiting p m
cost p m task.Go = 1 + waiting p m
cost p m (task.Return v) = 1 + waiting p m
cost p m (task.End o) = 0

-- the machine comes to the same, and has fewer steps left than so many
pub record Keeps (p : Posed) (whole : Whole) (most : ℕ) (m : Machine) (t : Task) : Type 0 where
  pub same : comes_to p m t ≡ whole
  pub fewer : cost p m t < most

-- the most steps of this where it waits before all that waits
abbrev pub weight : Posed → Machine → Wait → ℕ
weight p m w = waits p (all_waiting p m.waits) w m.frame.left

-- how a run goes on where this waits before all that waits
abbrev pub on_past : Posed → Machine → Wait → Onward
on_past p m w = onward p (on_from p m) w

-- the machine goes on to the evaluation of an expression for whose value this waits, or to the
-- execution of a statement for whose end it waits
abbrev pub Evaluates : Machine → Expr → Wait → Machine → Task → Type 0
Evaluates m e w n t =
    (p : Posed)
    → Keeps p (then_with (coded p m.frame e (frame_of m.frame) (memory m)) ((on_past p m w).value m.frame)) (suc (cost_of_code (call_cost p m.frame.left) e + weight p m w)) n t

abbrev pub Executes : Machine → Stmt → Wait → Machine → Task → Type 0
Executes m s w n t =
    (p : Posed)
    → Keeps p (exits (on_past p m w) m.frame (done p m.frame s (frame_of m.frame) (memory m))) (suc (cost_of_stmt p (call_cost p m.frame.left) s + weight p m w)) n t

-- one step from an expression, and from a statement
abbrev pub Evaluated : Posed → Machine → Expr → Machine → Task → Type 0
Evaluated p m e = Keeps p (evaluated p m e) (cost_of_code (call_cost p m.frame.left) e + waiting p m)

abbrev pub Executed : Posed → Machine → Stmt → Machine → Task → Type 0
Executed p m s = Keeps p (executed p m s) (cost_of_stmt p (call_cost p m.frame.left) s + waiting p m)

-- one step from a value, from the end of a statement and from a `return`, for which this waits
abbrev pub Resumed : Posed → Machine → Wait → Value → Machine → Task → Type 0
Resumed p m w v = Keeps p ((on_past p m w).value m.frame v (memory m)) (suc (weight p m w))

abbrev pub Ended : Posed → Machine → Wait → Machine → Task → Type 0
Ended p m w = Keeps p ((on_past p m w).ended m.frame (memory m)) (suc (weight p m w))

abbrev pub Returned : Posed → Machine → Wait → Option Value → Machine → Task → Type 0
Returned p m w v = Keeps p ((on_past p m w).returned v (memory m)) (suc (weight p m w))

-- a value, or the end of a statement, that one step comes to
abbrev pub Gained : Posed → Machine → Ends Value → Machine → Task → Type 0
Gained p m e = Keeps p (then_with e ((on_from p m).value m.frame)) (suc (suc (waiting p m)))

abbrev pub Exits : Posed → Machine → Exit → Machine → Task → Type 0
Exits p m x = Keeps p (exits (on_from p m) m.frame x) (suc (suc (waiting p m)))

-- `new`
abbrev pub Made : Posed → Machine → ℕ → Machine → Task → Type 0
Made p m class = Gained p m (make p class (memory m))

-- on from a call, to the method that makes it
abbrev pub on_called : Posed → Machine → Bool → Ends (Option Value) → Whole
on_called p m wanted r = then_with r (given_back (on_from p m) m.frame wanted)

-- a call: from its beginning, from where so much of it is known, from the test for null, from the
-- entry of the method, and from its body
abbrev pub Called : Posed → Machine → Call → Bool → Machine → Task → Type 0
Called p m c wanted =
    Keeps p (on_called p m wanted (call_of p (calls p m.frame.left) c (frame_of m.frame) (memory m))) (cost_of_call (call_cost p m.frame.left) c + waiting p m)

abbrev pub Argued : Posed → Machine → ℕ → Option Value → List Value → List Expr → Bool → Machine → Task → Type 0
Argued p m method target args rest wanted =
    Keeps p (arguments p (on_from p m) m.frame method target args rest wanted (memory m)) (cost_of_rest (call_cost p m.frame.left) rest + call_cost p m.frame.left + 2 + waiting p m)

abbrev pub Entered : Posed → Machine → ℕ → Option Value → List Value → Bool → Machine → Task → Type 0
Entered p m method target args wanted =
    Keeps p (on_called p m wanted (entered (calls p m.frame.left) method target args (memory m))) (call_cost p m.frame.left + 2 + waiting p m)

abbrev pub Started : Posed → Machine → ℕ → Value → List Value → Bool → Machine → Task → Type 0
Started p m method this args wanted =
    Keeps p (on_called p m wanted (calls p m.frame.left method this args (memory m))) (call_cost p m.frame.left + 2 + waiting p m)

abbrev pub Begun : Machine → MethodDef → Value → List Value → Bool → Machine → Task → Type 0
Begun m d this args wanted n t =
    (p : Posed)
    → Keeps p (on_called p m wanted (run_body p (calls p (m.frame.left - 1)) (Some d) this args (memory m))) (cost_of_stmt p (call_cost p (m.frame.left - 1)) d.body + 2 + waiting p m) n t

-- the statements of a block; a local that is set, or stepped; a field that is set, or stepped
abbrev pub Blocks : Machine → List Stmt → Machine → Task → Type 0
Blocks m ss n t =
    (p : Posed)
    → Keeps p (exits (on_from p m) m.frame (in_turn (map (done p m.frame) ss) (frame_of m.frame) (memory m))) (sum_by (cost_of_stmt p (call_cost p m.frame.left)) ss + 2 + waiting p m) n t

abbrev pub LocalSet : Machine → ℕ → Value → Machine → Task → Type 0
LocalSet m i v n t = (p : Posed) → Exits p m (set_local (frame_of m.frame) i v (memory m)) n t

abbrev pub LocalStepped : Posed → Machine → ℕ → Bool → Machine → Task → Type 0
LocalStepped p m i up =
    Exits p m (after (gives_in (slice_get m.frame.locals i) (memory m)) (λ v n. after (stepped p.scope.ints up v n) (set_local (frame_of m.frame) i)))

abbrev pub Stored : Posed → Machine → ℕ → Value → Value → Machine → Task → Type 0
Stored p m f v u = Exits p m (after (on_object (λ o. write p f o u) v (memory m)) (λ z. Goes m.frame.locals))

abbrev pub HeldStepped : Posed → Machine → ℕ → Bool → ℕ → Machine → Task → Type 0
HeldStepped p m f up o = Exits p m (after (step_field p f up o (memory m)) (λ z. Goes m.frame.locals))

abbrev pub FieldStepped : Posed → Machine → ℕ → Bool → Value → Machine → Task → Type 0
FieldStepped p m f up v = Exits p m (after (on_object (step_field p f up) v (memory m)) (λ z. Goes m.frame.locals))

-- a value of which a field is read; the first operand; the value of a loop's test
abbrev pub OnRead : Posed → Machine → ℕ → Value → Task → Type 0
OnRead p m f v = Gained p m (on_object (read p f) v (memory m)) m

abbrev pub OnRight : Machine → Op → Bor Expr → Value → Machine → Task → Type 0
OnRight m o e v n t = (p : Posed) → Resumed p m (w.Right o e) v n t

abbrev pub OnTurn : Machine → ℕ → Bor Expr → Bor Stmt → Value → Machine → Task → Type 0
OnTurn m i test body v n t = (p : Posed) → Resumed p m (w.Turn i test body) v n t

-- a `return`
abbrev pub GivenBack : Machine → Option Expr → Machine → Task → Type 0
GivenBack m v n t =
    (p : Posed)
    → Keeps p (exits (on_from p m) m.frame (give_back (option_map (coded p m.frame) v) (frame_of m.frame) (memory m))) (option_map_or (cost_of_code (call_cost p m.frame.left)) v 0 + 2 + waiting p m) n t

-- one step from the end of a statement, and from a `return`, whatever problem is run
abbrev pub Went : Machine → Wait → Machine → Task → Type 0
Went m w n t = (p : Posed) → Ended p m w n t

abbrev pub WentAgain : Machine → ℕ → Bor Expr → Bor Stmt → Machine → Task → Type 0
WentAgain m i test body n t = (p : Posed) → Ended p m (w.Again i test body) n t

abbrev pub WentBack : Machine → Activation → Bool → Option Value → Machine → Task → Type 0
WentBack m caller wanted r n t =
    (p : Posed)
    → Keeps p (given_back (on_from p m) caller wanted r (memory m)) (suc (1 + all_waiting p m.waits caller.left)) n t

abbrev pub Unwound : Machine → Wait → Option Value → Machine → Task → Type 0
Unwound m w v n t = (p : Posed) → Returned p m w v n t

-- one step, whatever the task is; one that has ended stays
abbrev pub most : Posed → Machine → Task → ℕ
most p m (task.End o) = 1
most p m t = cost p m t

abbrev pub Steps : Posed → Machine → Task → Machine → Task → Type 0
Steps p m t = Keeps p (comes_to p m t) (most p m t)

-- a machine has come to its end
pub record Comes (p : Posed) (m : Machine) (t : Task) (n : Machine) (o : Outcome) : Type 0 where
  pub same : ends_with o (memory n) ≡ comes_to p m t

-- One step from each form of statement.
use Rattle.std.proofs.Common.{◌≡◌, ℕ, zero, suc, ◌+◌, ◌-◌, ◌<◌, Bool, true, false, List, Option, Some, None, Bor, ap, sym, subst, ◌∙◌, arith}
use Rattle.std.specs.Prelude.{map, sum_by, slice_get, option_map, if◌then◌else◌}
use Rattle.std.specs.Option.{option_map_or}
use Rattle.taco_unit.specs.declared.expr.Expr.{Expr}
use Rattle.taco_unit.specs.declared.expr.Call.{Call}
use Rattle.taco_unit.specs.declared.stmt.Stmt.{Stmt}
use Rattle.taco_unit.specs.declared.stmt.Stmt.TheVariants as s
use Rattle.heap_core.specs.declared.value.Value.{Value}
use Rattle.heap_core.specs.Posed.{Posed}
use Rattle.heap_core.specs.Exec.{Memory, Exit, Goes, Returns, then_with, on_object, gives_in, write, call_of, after, on_branch, in_turn, set_local, stepped, step_field, give_back, calls}
use Rattle.heap_core.proofs.ExecForms.{exec_block, exec_set, exec_write, exec_step_local, exec_step_field, exec_if, exec_while, exec_return, exec_run}
use Rattle.heap_run.specs.declared.machine.Machine.{Machine}
use Rattle.heap_run.specs.declared.machine.Wait.TheVariants as w
use Rattle.heap_run.specs.declared.machine.Task.{Task}
use Rattle.heap_run.specs.Onward.{frame_of, coded, done, exits, turned}
use Rattle.heap_run.specs.Cost.{cost_of_code, cost_of_stmt, cost_of_turns, call_cost}
use Rattle.heap_run.specs.Machines.{memory, on_from, waiting, Keeps, Executed, Exits, Called, on_past, weight}
use Rattle.heap_run.proofs.Keeping.{keeps_from}
use Rattle.heap_run.proofs.Ends.{unwanted_then, exits_after, exits_again, turns_first}
use Rattle.heap_run.proofs.Costs.{cost_block, cost_set, cost_write, cost_step_local, cost_step_field, cost_if, cost_while, cost_return, cost_return_none, cost_run}

abbrev At : Posed → Machine → Expr → (Value → Memory → Exit) → ℕ → Machine → Task → Type 0
At p m a k c = Keeps p (then_with (coded p m.frame a (frame_of m.frame) (memory m)) (λ v l. exits (on_from p m) m.frame (k v l))) (suc (cost_of_code (call_cost p m.frame.left) a + c))

pub executed_as : (p : Posed) (m n : Machine) (t : Task) (x y : Stmt) → x ≡ y → Executed p m y n t → Executed p m x n t
executed_as p m n t x y is h = let P : Stmt → Type 0 = λ z. Executed p m z n t in subst P (sym is) h

pub block_at : (p : Posed) (m n : Machine) (t : Task) (ss : List Stmt) → Keeps p (exits (on_from p m) m.frame (in_turn (map (done p m.frame) ss) (frame_of m.frame) (memory m))) (sum_by (cost_of_stmt p (call_cost p m.frame.left)) ss + 2 + waiting p m) n t → Executed p m (s.Block ss) n t
block_at p m n t ss k =
    keeps_from p _ _ _ _ n t k (sym (ap (exits (on_from p m) m.frame) (exec_block p (calls p m.frame.left) ss (frame_of m.frame) (memory m)))) (let c = cost_block p (call_cost p m.frame.left) ss in omega arith)

pub step_local_at : (p : Posed) (m n : Machine) (t : Task) (i : ℕ) (up : Bool) → Exits p m (after (gives_in (slice_get m.frame.locals i) (memory m)) (λ v n. after (stepped p.scope.ints up v n) (set_local (frame_of m.frame) i))) n t → Executed p m (s.StepLocal i up) n t
step_local_at p m n t i up k =
    keeps_from p _ _ _ _ n t k (sym (ap (exits (on_from p m) m.frame) (exec_step_local p (calls p m.frame.left) i up (frame_of m.frame) (memory m)))) (let c = cost_step_local p (call_cost p m.frame.left) i up in omega arith)

pub run_at : (p : Posed) (m n : Machine) (t : Task) (c : Call) → Called p m c false n t → Executed p m (s.Run c) n t
run_at p m n t c k =
    keeps_from p _ _ _ _ n t k
    (unwanted_then (on_from p m) m.frame (call_of p (calls p m.frame.left) c (frame_of m.frame) (memory m)) ∙ sym (ap (exits (on_from p m) m.frame) (exec_run p (calls p m.frame.left) c (frame_of m.frame) (memory m))))
    (let q = cost_run p (call_cost p m.frame.left) c in omega arith)

pub set_at : (p : Posed) (m n : Machine) (t : Task) (i : ℕ) (a : Expr) → At p m a (set_local (frame_of m.frame) i) (1 + waiting p m) n t → Executed p m (s.Set i a) n t
set_at p m n t i a k =
    keeps_from p _ _ _ _ n t k
    (exits_after (on_from p m) m.frame (coded p m.frame a (frame_of m.frame) (memory m)) (set_local (frame_of m.frame) i) ∙ sym (ap (exits (on_from p m) m.frame) (exec_set p (calls p m.frame.left) i a (frame_of m.frame) (memory m))))
    (let c = cost_set p (call_cost p m.frame.left) i a in omega arith)

pub write_at : (p : Posed) (m n : Machine) (t : Task) (a : Expr) (f : ℕ) (b : Expr) → At p m a (λ v l. after (coded p m.frame b (frame_of m.frame) l) (λ u h. after (on_object (λ o. write p f o u) v h) (λ z. Goes m.frame.locals))) (cost_of_code (call_cost p m.frame.left) b + 1 + waiting p m) n t → Executed p m (s.Write a f b) n t
write_at p m n t a f b k =
    keeps_from p _ _ _ _ n t k
    (exits_after (on_from p m) m.frame (coded p m.frame a (frame_of m.frame) (memory m)) (λ v l. after (coded p m.frame b (frame_of m.frame) l) (λ u h. after (on_object (λ o. write p f o u) v h) (λ z. Goes m.frame.locals))) ∙ sym (ap (exits (on_from p m) m.frame) (exec_write p (calls p m.frame.left) a f b (frame_of m.frame) (memory m))))
    (let c = cost_write p (call_cost p m.frame.left) a f b in omega arith)

pub step_field_at : (p : Posed) (m n : Machine) (t : Task) (a : Expr) (f : ℕ) (up : Bool) → At p m a (λ v l. after (on_object (step_field p f up) v l) (λ z. Goes m.frame.locals)) (1 + waiting p m) n t → Executed p m (s.StepField a f up) n t
step_field_at p m n t a f up k =
    keeps_from p _ _ _ _ n t k
    (exits_after (on_from p m) m.frame (coded p m.frame a (frame_of m.frame) (memory m)) (λ v l. after (on_object (step_field p f up) v l) (λ z. Goes m.frame.locals)) ∙ sym (ap (exits (on_from p m) m.frame) (exec_step_field p (calls p m.frame.left) a f up (frame_of m.frame) (memory m))))
    (let c = cost_step_field p (call_cost p m.frame.left) a f up in omega arith)

pub if_at : (p : Posed) (m n : Machine) (t : Task) (a : Expr) (u v : Stmt) → At p m a (on_branch (λ b l. if b then done p m.frame u (frame_of m.frame) l else done p m.frame v (frame_of m.frame) l)) (cost_of_stmt p (call_cost p m.frame.left) u + cost_of_stmt p (call_cost p m.frame.left) v + 1 + waiting p m) n t → Executed p m (s.If a u v) n t
if_at p m n t a u v k =
    keeps_from p _ _ _ _ n t k
    (exits_after (on_from p m) m.frame (coded p m.frame a (frame_of m.frame) (memory m)) (on_branch (λ b l. if b then done p m.frame u (frame_of m.frame) l else done p m.frame v (frame_of m.frame) l)) ∙ sym (ap (exits (on_from p m) m.frame) (exec_if p (calls p m.frame.left) a u v (frame_of m.frame) (memory m))))
    (let c = cost_if p (call_cost p m.frame.left) a u v in omega arith)

pub while_at : (p : Posed) (m n : Machine) (t : Task) (i : ℕ) (a : Expr) (u : Stmt) → i ≡ p.scope.loops → At p m a (on_branch (turned p m.frame i a u)) (cost_of_turns p (call_cost p m.frame.left) i a u + waiting p m) n t → Executed p m (s.While a u) n t
unfolding cost_of_turns
while_at p m n t i a u is k =
    let P : ℕ → Type 0 = λ z. At p m a (on_branch (turned p m.frame z a u)) (cost_of_turns p (call_cost p m.frame.left) z a u + waiting p m) n t in
    keeps_from p _ _ _ _ n t (subst P is k)
    (turns_first p (on_from p m) m.frame p.scope.loops a u (memory m) ∙ sym (ap (exits (on_from p m) m.frame) (exec_while p (calls p m.frame.left) a u (frame_of m.frame) (memory m))))
    (let c = cost_while p (call_cost p m.frame.left) a u in omega arith)

pub return_at : (p : Posed) (m n : Machine) (t : Task) (v : Option Expr) → Keeps p (exits (on_from p m) m.frame (give_back (option_map (coded p m.frame) v) (frame_of m.frame) (memory m))) (option_map_or (cost_of_code (call_cost p m.frame.left)) v 0 + 2 + waiting p m) n t → Executed p m (s.Return v) n t
return_at p m n t None k =
    keeps_from p _ _ _ _ n t k (sym (ap (exits (on_from p m) m.frame) (exec_return p (calls p m.frame.left) None (frame_of m.frame) (memory m)))) (let c = cost_return_none p (call_cost p m.frame.left) in omega arith)
return_at p m n t (Some a) k =
    keeps_from p _ _ _ _ n t k (sym (ap (exits (on_from p m) m.frame) (exec_return p (calls p m.frame.left) (Some a) (frame_of m.frame) (memory m)))) (let c = cost_return p (call_cost p m.frame.left) a in omega arith)

pub given_at : (p : Posed) (m n : Machine) (t : Task) (a : Expr) → At p m a (λ v l. Returns (Some v) l) (1 + waiting p m) n t → Keeps p (exits (on_from p m) m.frame (give_back (Some (coded p m.frame a)) (frame_of m.frame) (memory m))) (cost_of_code (call_cost p m.frame.left) a + 2 + waiting p m) n t
given_at p m n t a k = keeps_from p _ _ _ _ n t k (exits_after (on_from p m) m.frame (coded p m.frame a (frame_of m.frame) (memory m)) (λ v l. Returns (Some v) l)) (omega arith)

-- the test of a loop is true, or false
pub turn_true : (m n : Machine) (t : Task) (i : ℕ) (test : Bor Expr) (body : Bor Stmt) (p : Posed) → 0 < i → Keeps p (exits (on_past p m (w.Again (i - 1) test body)) m.frame (done p m.frame body.now (frame_of m.frame) (memory m))) (suc (cost_of_stmt p (call_cost p m.frame.left) body.now + weight p m (w.Again (i - 1) test body))) n t → Keeps p (exits (on_from p m) m.frame (turned p m.frame i test.now body.now true (memory m))) (suc (weight p m (w.Turn i test body))) n t
unfolding cost_of_turns
turn_true m n t zero test body p h k = absurd (omega arith)
turn_true m n t (suc i) test body p h k =
    let is : suc i - 1 ≡ i = omega arith in
    let k' = rw is at k in
    keeps_from p _ _ _ _ n t k' (exits_again p (on_from p m) m.frame i test body (done p m.frame body.now (frame_of m.frame) (memory m))) (omega arith)

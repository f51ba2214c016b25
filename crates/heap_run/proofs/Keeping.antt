-- What a step owes where something is put before all that waits.
use Rattle.std.proofs.Common.{◌≡◌, ℕ, ◌≤◌, List, [], ◌∷◌, ◌++◌, Bor, arith, refl, ◌∙◌}
use Rattle.std.proofs.lemmas.List.Sums.{fold-append}
use Rattle.taco_unit.specs.declared.expr.Expr.{Expr}
use Rattle.taco_unit.specs.declared.stmt.Stmt.{Stmt}
use Rattle.heap_core.specs.Posed.{Posed}
use Rattle.heap_run.specs.declared.machine.Machine.{Machine}
use Rattle.heap_run.specs.declared.machine.Wait.{Wait}
use Rattle.heap_run.specs.declared.machine.Task.{Task}
use Rattle.heap_run.specs.declared.machine.Task.TheVariants as task
use Rattle.heap_run.specs.Onward.{Whole, onward, last, all_onward}
use Rattle.heap_run.specs.Cost.{waits, all_waiting}
use Rattle.heap_run.specs.Machines.{Keeps, Evaluates, Executes}

pub onward_more : (p : Posed) (ws : List Wait) (w : Wait) → all_onward p (ws ++ w ∷ []) ≡ onward p (all_onward p ws) w
onward_more p ws w = fold-append (onward p) (last p) ws (w ∷ [])

pub waiting_more : (p : Posed) (ws : List Wait) (w : Wait) → all_waiting p (ws ++ w ∷ []) ≡ waits p (all_waiting p ws) w
unfolding all_waiting
waiting_more p ws w = fold-append (waits p) (λ d. 0) ws (w ∷ [])

pub evaluates : (m : Machine) (e : Bor Expr) (w : Wait) (ws : List Wait) → ws ≡ m.waits ++ w ∷ [] → Evaluates m e.now w (record m { waits = ws }) (task.Evaluate e)
evaluates m e w ws is p = rw is (record { same = rw (onward_more p m.waits w) refl; fewer = rw (waiting_more p m.waits w) (omega arith) })

pub executes : (m : Machine) (s : Bor Stmt) (w : Wait) (ws : List Wait) → ws ≡ m.waits ++ w ∷ [] → Executes m s.now w (record m { waits = ws }) (task.Execute s)
executes m s w ws is p = rw is (record { same = rw (onward_more p m.waits w) refl; fewer = rw (waiting_more p m.waits w) (omega arith) })

-- another whole and more steps
pub keeps_from : (p : Posed) (x y : Whole) (i j : ℕ) (m : Machine) (t : Task) → Keeps p x i m t → x ≡ y → i ≤ j → Keeps p y j m t
keeps_from p x y i j m t k e l = record { same = k.same ∙ e; fewer = (let f = k.fewer in omega arith) }

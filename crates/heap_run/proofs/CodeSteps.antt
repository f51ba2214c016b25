-- One step from each form of code.
use Rattle.std.proofs.Common.{◌≡◌, ℕ, suc, ◌+◌, true, Option, Some, None, refl, ap, sym, subst, ◌∙◌, arith}
use Rattle.taco_unit.specs.declared.expr.Op.{Op}
use Rattle.taco_unit.specs.declared.expr.Expr.{Expr}
use Rattle.taco_unit.specs.declared.expr.Expr.TheVariants as e
use Rattle.taco_unit.specs.declared.expr.Call.{Call}
use Rattle.heap_core.specs.declared.value.Value.{Value}
use Rattle.heap_core.specs.declared.value.Seen.{Seen}
use Rattle.heap_core.specs.declared.value.Seen.TheVariants.{Is, Bad, Out}
use Rattle.heap_core.specs.Posed.{Posed}
use Rattle.heap_core.specs.Outcomes.{negative, opposite}
use Rattle.heap_core.specs.Exec.{Memory, Ends, Gives, Leaves, then_with, ends_as, on_object, gives_in, read, combined, call_of, calls}
use Rattle.heap_core.proofs.ExecForms.{code_read, code_neg, code_not, code_bin, code_call}
use Rattle.heap_run.specs.declared.machine.Machine.{Machine}
use Rattle.heap_run.specs.declared.machine.Task.{Task}
use Rattle.heap_run.specs.declared.machine.Task.TheVariants as task
use Rattle.heap_run.specs.declared.machine.Outcome.TheVariants as outcome
use Rattle.heap_run.specs.Tasks.{given, given_in}
use Rattle.heap_run.specs.Onward.{Whole, frame_of, coded, known}
use Rattle.heap_run.specs.Cost.{cost_of_code, call_cost}
use Rattle.heap_run.specs.Machines.{memory, on_from, evaluated, waiting, Keeps, Evaluated, Gained, Called}
use Rattle.heap_run.proofs.Keeping.{keeps_from}
use Rattle.heap_run.proofs.Ends.{then_then, combined_then, wanted_then}
use Rattle.heap_run.proofs.Costs.{cost_read, cost_neg, cost_not, cost_bin, cost_call}

-- the machine goes on to the evaluation of an expression, whose value goes on so
abbrev At : Posed → Machine → Expr → (Value → Memory → Whole) → ℕ → Machine → Task → Type 0
At p m a k c = Keeps p (then_with (coded p m.frame a (frame_of m.frame) (memory m)) k) (suc (cost_of_code (call_cost p m.frame.left) a + c))

pub evaluated_as : (p : Posed) (m n : Machine) (t : Task) (x y : Expr) → x ≡ y → Evaluated p m y n t → Evaluated p m x n t
evaluated_as p m n t x y is h = let P : Expr → Type 0 = λ z. Evaluated p m z n t in subst P (sym is) h

-- a form that is done in one step
pub gained_at : (p : Posed) (m n : Machine) (t : Task) (x : Expr) (e : Ends Value) → coded p m.frame x (frame_of m.frame) (memory m) ≡ e → cost_of_code (call_cost p m.frame.left) x ≡ 2 → Gained p m e n t → Evaluated p m x n t
gained_at p m n t x e is c k =
    keeps_from p (then_with e ((on_from p m).value m.frame)) (evaluated p m x) (suc (suc (waiting p m))) (cost_of_code (call_cost p m.frame.left) x + waiting p m) n t k (ap (λ z. then_with z ((on_from p m).value m.frame)) (sym is)) (omega arith)

pub gives_seen : (p : Posed) (m : Machine) (s : Seen) → Gained p m (ends_as (memory m) s) m (given s)
gives_seen p m (Is v) = record { same = refl; fewer = omega arith }
gives_seen p m Bad = record { same = refl; fewer = omega arith }
gives_seen p m Out = record { same = refl; fewer = omega arith }

pub gives_value : (p : Posed) (m : Machine) (v : Value) → Gained p m (Gives v (memory m)) m (task.Give v)
gives_value p m v = record { same = refl; fewer = omega arith }

pub gives_nothing : (p : Posed) (m : Machine) → Gained p m Leaves m (task.End outcome.Unknown)
gives_nothing p m = record { same = refl; fewer = omega arith }

pub gives_local : (p : Posed) (m : Machine) (o : Option Value) → Gained p m (gives_in o (memory m)) m (given_in o)
gives_local p m (Some v) = record { same = refl; fewer = omega arith }
gives_local p m None = record { same = refl; fewer = omega arith }

pub read_at : (p : Posed) (m n : Machine) (t : Task) (a : Expr) (f : ℕ) → At p m a (λ v l. then_with (on_object (read p f) v l) ((on_from p m).value m.frame)) (1 + waiting p m) n t → Evaluated p m (e.Read a f) n t
read_at p m n t a f k =
    keeps_from p _ _ _ _ n t k
    (sym (ap (λ z. then_with z ((on_from p m).value m.frame)) (code_read p (calls p m.frame.left) a f (frame_of m.frame) (memory m)) ∙ then_then (coded p m.frame a (frame_of m.frame) (memory m)) (on_object (read p f)) ((on_from p m).value m.frame)))
    (let c = cost_read (call_cost p m.frame.left) a f in omega arith)

pub neg_at : (p : Posed) (m n : Machine) (t : Task) (a : Expr) → At p m a (λ v l. then_with (ends_as l (negative p.scope.ints v)) ((on_from p m).value m.frame)) (1 + waiting p m) n t → Evaluated p m (e.Neg a) n t
neg_at p m n t a k =
    keeps_from p _ _ _ _ n t k
    (sym (ap (λ z. then_with z ((on_from p m).value m.frame)) (code_neg p (calls p m.frame.left) a (frame_of m.frame) (memory m)) ∙ then_then (coded p m.frame a (frame_of m.frame) (memory m)) (λ v n. ends_as n (negative p.scope.ints v)) ((on_from p m).value m.frame)))
    (let c = cost_neg (call_cost p m.frame.left) a in omega arith)

pub not_at : (p : Posed) (m n : Machine) (t : Task) (a : Expr) → At p m a (λ v l. then_with (ends_as l (opposite v)) ((on_from p m).value m.frame)) (1 + waiting p m) n t → Evaluated p m (e.Not a) n t
not_at p m n t a k =
    keeps_from p _ _ _ _ n t k
    (sym (ap (λ z. then_with z ((on_from p m).value m.frame)) (code_not p (calls p m.frame.left) a (frame_of m.frame) (memory m)) ∙ then_then (coded p m.frame a (frame_of m.frame) (memory m)) (λ v n. ends_as n (opposite v)) ((on_from p m).value m.frame)))
    (let c = cost_not (call_cost p m.frame.left) a in omega arith)

pub bin_at : (p : Posed) (m n : Machine) (t : Task) (o : Op) (a b : Expr) → At p m a (λ v l. then_with (combined o p.scope.ints (known v) (coded p m.frame b) (frame_of m.frame) l) ((on_from p m).value m.frame)) (cost_of_code (call_cost p m.frame.left) b + 1 + waiting p m) n t → Evaluated p m (e.Bin o a b) n t
bin_at p m n t o a b k =
    keeps_from p _ _ _ _ n t k
    (sym (ap (λ z. then_with z ((on_from p m).value m.frame)) (code_bin p (calls p m.frame.left) o a b (frame_of m.frame) (memory m)) ∙ combined_then o p.scope.ints (coded p m.frame a) (coded p m.frame b) (frame_of m.frame) (memory m) ((on_from p m).value m.frame)))
    (let c = cost_bin (call_cost p m.frame.left) o a b in omega arith)

pub call_at : (p : Posed) (m n : Machine) (t : Task) (c : Call) → Called p m c true n t → Evaluated p m (e.Call c) n t
call_at p m n t c k =
    keeps_from p _ _ _ _ n t k
    (wanted_then (on_from p m) m.frame (call_of p (calls p m.frame.left) c (frame_of m.frame) (memory m)) ∙ sym (ap (λ z. then_with z ((on_from p m).value m.frame)) (code_call p (calls p m.frame.left) c (frame_of m.frame) (memory m))))
    (let q = cost_call (call_cost p m.frame.left) c in omega arith)

-- One step of a call.
use Rattle.std.proofs.Common.{◌≡◌, ℕ, zero, suc, ◌+◌, ◌-◌, ◌<◌, ◌≤◌, Bool, List, [], ◌∷◌, ◌++◌, Option, Some, None, Bor, length, get_or, take, drop, refl, ap, sym, subst, ◌∙◌, arith}
use Rattle.std.specs.Prelude.{map, sum_by, slice_get, option_map}
use Rattle.std.specs.Option.{option_map_or}
use Rattle.std.proofs.lemmas.List.Sums.{sum_by-cons, get_or-le-sum_by}
use Rattle.std.proofs.lemmas.Option.{slice_get_within, get_or_from_slice_get}
use Rattle.std.proofs.lemmas.Grind.{common_steps}
use Rattle.taco_unit.specs.declared.expr.Expr.{Expr}
use Rattle.taco_unit.specs.declared.expr.Call.{Call, out-Call}
use Rattle.taco_unit.specs.declared.stmt.Stmt.{Stmt}
use Rattle.taco_unit.specs.declared.unit.MethodDef.{MethodDef}
use Rattle.heap_core.specs.declared.value.Value.{Value}
use Rattle.heap_core.specs.Posed.{Posed}
use Rattle.heap_core.specs.Outcomes.{zero_of}
use Rattle.heap_core.specs.Exec.{Memory, then_with, in_order, target_of, exec, entered, run_body, calls}
use Rattle.heap_core.proofs.ExecForms.{call_form}
use Rattle.heap_run.specs.declared.machine.Activation.{Activation}
use Rattle.heap_run.specs.declared.machine.Machine.{Machine}
use Rattle.heap_run.specs.declared.machine.Wait.{Wait}
use Rattle.heap_run.specs.declared.machine.Wait.TheVariants as w
use Rattle.heap_run.specs.declared.machine.Task.{Task}
use Rattle.heap_run.specs.declared.machine.Task.TheVariants as task
use Rattle.heap_run.specs.Onward.{frame_of, coded, given_back, arguments, otherwise_of, all_onward}
use Rattle.heap_run.specs.Cost.{cost_of_code, cost_of_rest, cost_of_stmt, call_cost}
use Rattle.heap_run.specs.Machines.{memory, on_from, waiting, Keeps, Called, Argued, Started, Begun}
use Rattle.heap_run.proofs.Keeping.{onward_more, waiting_more, keeps_from}
use Rattle.heap_run.proofs.Ends.{then_then, target_then, argument_then, exits_called}
use Rattle.heap_run.proofs.Costs.{cost_form}

part_le : {X : Type 0} (f : X → ℕ) (xs : List X) (i : ℕ) (x : X) → slice_get xs i ≡ Some x → f x ≤ sum_by f xs
part_le {X = X} f xs i x is =
    let le = get_or-le-sum_by f xs i x (slice_get_within xs i x is) in
    let P : X → Type 0 = λ z. f z ≤ sum_by f xs in
    subst P (get_or_from_slice_get xs i x x is) le

-- a list by its first item and the others
pub first_and_rest : {X : Type 0} (xs : List X) (a : X) → 1 ≤ length xs → a ≡ get_or xs 0 a → xs ≡ a ∷ take (length xs - 1) (drop 1 xs)
first_and_rest xs a h is = grind (arith, common_steps)

rest_more : (call : ℕ) (a : Expr) (rest : List Expr) → cost_of_rest call (a ∷ rest) ≡ cost_of_code call a + cost_of_rest call rest
unfolding cost_of_rest
rest_more call a rest = sum_by-cons (cost_of_code call) a rest

pub target_at : (p : Posed) (m n : Machine) (t : Task) (c : Call) (a : Expr) (wanted : Bool) → (out-Call c).target ≡ Some a → Keeps p (then_with (coded p m.frame a (frame_of m.frame) (memory m)) (λ v l. arguments p (on_from p m) m.frame (out-Call c).method (Some v) [] (out-Call c).args wanted l)) (suc (cost_of_code (call_cost p m.frame.left) a + (cost_of_rest (call_cost p m.frame.left) (out-Call c).args + (call_cost p m.frame.left) + 1 + waiting p m))) n t → Called p m c wanted n t
target_at p m n t c a wanted is k =
    keeps_from p _ _ _ _ n t k
    (sym (ap (λ z. then_with z (given_back (on_from p m) m.frame wanted)) (call_form p (calls p m.frame.left) c (frame_of m.frame) (memory m) ∙ ap (λ z. then_with (target_of (option_map (coded p m.frame) z) (frame_of m.frame) (memory m)) (λ this n. then_with (in_order (map (coded p m.frame) (out-Call c).args) (frame_of m.frame) n) (λ vs l. entered (calls p m.frame.left) (out-Call c).method this vs l))) is)
    ∙ target_then (coded p m.frame a (frame_of m.frame) (memory m)) (in_order (map (coded p m.frame) (out-Call c).args) (frame_of m.frame)) (entered (calls p m.frame.left) (out-Call c).method) (given_back (on_from p m) m.frame wanted)))
    (let q = cost_form (call_cost p m.frame.left) c ∙ ap (λ z. option_map_or (cost_of_code (call_cost p m.frame.left)) z 0 + cost_of_rest (call_cost p m.frame.left) (out-Call c).args + (call_cost p m.frame.left) + 2) is in omega arith)

pub static_at : (p : Posed) (m n : Machine) (t : Task) (c : Call) (wanted : Bool) → (out-Call c).target ≡ None → Argued p m (out-Call c).method None [] (out-Call c).args wanted n t → Called p m c wanted n t
static_at p m n t c wanted is k =
    keeps_from p _ _ _ _ n t k
    (sym (ap (λ z. then_with z (given_back (on_from p m) m.frame wanted)) (call_form p (calls p m.frame.left) c (frame_of m.frame) (memory m) ∙ ap (λ z. then_with (target_of (option_map (coded p m.frame) z) (frame_of m.frame) (memory m)) (λ this n. then_with (in_order (map (coded p m.frame) (out-Call c).args) (frame_of m.frame) n) (λ vs l. entered (calls p m.frame.left) (out-Call c).method this vs l))) is)
    ∙ then_then (in_order (map (coded p m.frame) (out-Call c).args) (frame_of m.frame) (memory m)) (λ vs l. entered (calls p m.frame.left) (out-Call c).method None vs l) (given_back (on_from p m) m.frame wanted)))
    (let q = cost_form (call_cost p m.frame.left) c ∙ ap (λ z. option_map_or (cost_of_code (call_cost p m.frame.left)) z 0 + cost_of_rest (call_cost p m.frame.left) (out-Call c).args + (call_cost p m.frame.left) + 2) is in omega arith)

pub argument_at : (p : Posed) (m n : Machine) (t : Task) (method : ℕ) (target : Option Value) (front : List Value) (xs : List Expr) (a : Expr) (rest : List Expr) (wanted : Bool) → xs ≡ a ∷ rest → Keeps p (then_with (coded p m.frame a (frame_of m.frame) (memory m)) (λ v l. arguments p (on_from p m) m.frame method target (front ++ v ∷ []) rest wanted l)) (suc (cost_of_code (call_cost p m.frame.left) a + (cost_of_rest (call_cost p m.frame.left) rest + (call_cost p m.frame.left) + 1 + waiting p m))) n t → Argued p m method target front xs wanted n t
argument_at p m n t method target front xs a rest wanted is k =
    let P : List Expr → Type 0 = λ z. Argued p m method target front z wanted n t in
    subst P (sym is)
    (keeps_from p _ _ _ _ n t k
    (sym (argument_then (coded p m.frame a (frame_of m.frame) (memory m)) (in_order (map (coded p m.frame) rest) (frame_of m.frame)) front (λ vs l. then_with (entered (calls p m.frame.left) method target vs l) (given_back (on_from p m) m.frame wanted))))
    (let q = rest_more (call_cost p m.frame.left) a rest in omega arith))

-- the called method costs no more than a call
stmt_le : (p : Posed) (l method : ℕ) (d : MethodDef) → 0 < l → slice_get p.unit.methods method ≡ Some d → cost_of_stmt p (call_cost p (l - 1)) d.body ≤ call_cost p l
unfolding call_cost
stmt_le p zero method d h is = absurd (omega arith)
stmt_le p (suc l) method d h is =
    let less : suc l - 1 ≡ l = omega arith in
    rw less (part_le (λ d'. cost_of_stmt p (call_cost p l) d'.body) p.unit.methods method d is)

calls_at : (p : Posed) (l method : ℕ) (this : Value) (args : List Value) (mem : Memory) (d : MethodDef) → 0 < l → slice_get p.unit.methods method ≡ Some d → run_body p (calls p (l - 1)) (Some d) this args mem ≡ calls p l method this args mem
calls_at p zero method this args mem d h is = absurd (omega arith)
calls_at p (suc l) method this args mem d h is =
    let less : suc l - 1 ≡ l = omega arith in
    rw (less, is) refl

pub started_at : (p : Posed) (m n : Machine) (t : Task) (method : ℕ) (this : Value) (args : List Value) (wanted : Bool) (d : MethodDef) → 0 < m.frame.left → slice_get p.unit.methods method ≡ Some d → Begun m d this args wanted n t → Started p m method this args wanted n t
started_at p m n t method this args wanted d h is k =
    keeps_from p _ _ _ _ n t (k p) (ap (λ z. then_with z (given_back (on_from p m) m.frame wanted)) (calls_at p m.frame.left method this args (memory m) d h is)) (let q = stmt_le p m.frame.left method d h is in omega arith)

pub begun_at : (m : Machine) (d : MethodDef) (this : Value) (args : List Value) (wanted : Bool) (locals : List Value) (fr : Activation) (ws : List Wait) (body : Bor Stmt) → body.now ≡ d.body → locals ≡ args ++ map zero_of d.locals → fr ≡ record { this = this; locals = locals; left = m.frame.left - 1 } → ws ≡ m.waits ++ w.Caller m.frame (otherwise_of d) wanted ∷ [] → Begun m d this args wanted (record { waits = ws; frame = fr; heap = m.heap }) (task.Execute body)
begun_at m d this args wanted locals fr ws body eb el ef ew p =
    rw (ew, ef, el) (record {
      same =
          rw (onward_more p m.waits (w.Caller m.frame (otherwise_of d) wanted), eb)
          (exits_called p (all_onward p m.waits) m.frame d wanted (record { this = this; locals = args ++ map zero_of d.locals; left = m.frame.left - 1 }) (exec p (calls p (m.frame.left - 1)) d.body (record { this = this; locals = args ++ map zero_of d.locals }) (memory m)));
      fewer = rw (waiting_more p m.waits (w.Caller m.frame (otherwise_of d) wanted), eb) (omega arith);
    })

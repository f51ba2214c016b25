-- One equation for each form of code: what `code`, `call_of` and `exec` give of it.
use Rattle.std.proofs.Common.{◌≡◌, ℕ, Bool, List, Option, Some, None, refl}
use Rattle.std.specs.Prelude.{ℤ, map, option_map, slice_get, if◌then◌else◌}
use Rattle.taco_unit.specs.declared.expr.Op.{Op}
use Rattle.taco_unit.specs.declared.expr.Expr.{Expr, fold_out-Expr}
use Rattle.taco_unit.specs.declared.expr.Call.{Call, fold_out-Call, out-Call, map-Call}
use Rattle.taco_unit.specs.declared.expr.Quant.{Quant, fold-Quant}
use Rattle.taco_unit.specs.declared.expr.Reach.{Reach, fold-Reach}
use Rattle.taco_unit.specs.declared.expr.Expr.TheVariants as e
use Rattle.taco_unit.specs.declared.stmt.Stmt.{Stmt, fold_out-Stmt}
use Rattle.taco_unit.specs.declared.stmt.Stmt.TheVariants as s
use Rattle.heap_core.specs.declared.value.Value.TheVariants.{Null, Flag}
use Rattle.heap_core.specs.declared.value.Value.{Value}
use Rattle.heap_core.specs.Posed.{Posed}
use Rattle.heap_core.specs.Outcomes.{number, opposite, negative}
use Rattle.heap_core.specs.Exec.{Memory, Ends, Gives, Leaves, Goes, Frame, Code, Body, Run, then_with, ends_as, on_object, gives_in, read, write, make, combined, called, in_order, target_of, entered, step_code, code, call_of, after, after_test, in_turn, set_local, stepped, step_field, turns, give_back, step_stmt, exec}

-- what a call in code does
abbrev Calls : Type 0
Calls = Frame → Memory → Ends (Option Value)

pub code_num : (p : Posed) (run : Run) (z : ℤ) (fr : Frame) (m : Memory) → code p run (e.Num z) fr m ≡ ends_as m (number p.scope.ints z)
code_num p run z fr m = rw (fold_out-Expr Code Calls (Unit {0}) (Unit {0}) (step_code p) (called run) (λ q. tt) (λ r. tt) (e.Num z), e.outs-Num z) refl

pub code_flag : (p : Posed) (run : Run) (b : Bool) (fr : Frame) (m : Memory) → code p run (e.Flag b) fr m ≡ Gives (Flag b) m
code_flag p run b fr m = rw (fold_out-Expr Code Calls (Unit {0}) (Unit {0}) (step_code p) (called run) (λ q. tt) (λ r. tt) (e.Flag b), e.outs-Flag b) refl

pub code_null : (p : Posed) (run : Run) (fr : Frame) (m : Memory) → code p run e.Null fr m ≡ Gives Null m
code_null p run fr m = rw (fold_out-Expr Code Calls (Unit {0}) (Unit {0}) (step_code p) (called run) (λ q. tt) (λ r. tt) e.Null, e.outs-Null) refl

pub code_this : (p : Posed) (run : Run) (fr : Frame) (m : Memory) → code p run e.This fr m ≡ Gives fr.this m
code_this p run fr m = rw (fold_out-Expr Code Calls (Unit {0}) (Unit {0}) (step_code p) (called run) (λ q. tt) (λ r. tt) e.This, e.outs-This) refl

pub code_local : (p : Posed) (run : Run) (i : ℕ) (fr : Frame) (m : Memory) → code p run (e.Local i) fr m ≡ gives_in (slice_get fr.locals i) m
code_local p run i fr m = rw (fold_out-Expr Code Calls (Unit {0}) (Unit {0}) (step_code p) (called run) (λ q. tt) (λ r. tt) (e.Local i), e.outs-Local i) refl

pub code_read : (p : Posed) (run : Run) (a : Expr) (f : ℕ) (fr : Frame) (m : Memory) → code p run (e.Read a f) fr m ≡ then_with (code p run a fr m) (on_object (read p f))
code_read p run a f fr m = rw (fold_out-Expr Code Calls (Unit {0}) (Unit {0}) (step_code p) (called run) (λ q. tt) (λ r. tt) (e.Read a f), e.outs-Read a f) refl

pub code_neg : (p : Posed) (run : Run) (a : Expr) (fr : Frame) (m : Memory) → code p run (e.Neg a) fr m ≡ then_with (code p run a fr m) (λ v n. ends_as n (negative p.scope.ints v))
code_neg p run a fr m = rw (fold_out-Expr Code Calls (Unit {0}) (Unit {0}) (step_code p) (called run) (λ q. tt) (λ r. tt) (e.Neg a), e.outs-Neg a) refl

pub code_not : (p : Posed) (run : Run) (a : Expr) (fr : Frame) (m : Memory) → code p run (e.Not a) fr m ≡ then_with (code p run a fr m) (λ v n. ends_as n (opposite v))
code_not p run a fr m = rw (fold_out-Expr Code Calls (Unit {0}) (Unit {0}) (step_code p) (called run) (λ q. tt) (λ r. tt) (e.Not a), e.outs-Not a) refl

pub code_bin : (p : Posed) (run : Run) (o : Op) (a : Expr) (b : Expr) (fr : Frame) (m : Memory) → code p run (e.Bin o a b) fr m ≡ combined o p.scope.ints (code p run a) (code p run b) fr m
code_bin p run o a b fr m = rw (fold_out-Expr Code Calls (Unit {0}) (Unit {0}) (step_code p) (called run) (λ q. tt) (λ r. tt) (e.Bin o a b), e.outs-Bin o a b) refl

pub code_new : (p : Posed) (run : Run) (c : ℕ) (fr : Frame) (m : Memory) → code p run (e.New c) fr m ≡ make p c m
code_new p run c fr m = rw (fold_out-Expr Code Calls (Unit {0}) (Unit {0}) (step_code p) (called run) (λ q. tt) (λ r. tt) (e.New c), e.outs-New c) refl

pub code_call : (p : Posed) (run : Run) (c : Call) (fr : Frame) (m : Memory) → code p run (e.Call c) fr m ≡ then_with (call_of p run c fr m) gives_in
code_call p run c fr m = rw (fold_out-Expr Code Calls (Unit {0}) (Unit {0}) (step_code p) (called run) (λ q. tt) (λ r. tt) (e.Call c), e.outs-Call c) refl

pub code_result : (p : Posed) (run : Run) (fr : Frame) (m : Memory) → code p run e.Result fr m ≡ Leaves
code_result p run fr m = rw (fold_out-Expr Code Calls (Unit {0}) (Unit {0}) (step_code p) (called run) (λ q. tt) (λ r. tt) e.Result, e.outs-Result) refl

pub code_bound : (p : Posed) (run : Run) (i : ℕ) (fr : Frame) (m : Memory) → code p run (e.Bound i) fr m ≡ Leaves
code_bound p run i fr m = rw (fold_out-Expr Code Calls (Unit {0}) (Unit {0}) (step_code p) (called run) (λ q. tt) (λ r. tt) (e.Bound i), e.outs-Bound i) refl

pub code_quant : (p : Posed) (run : Run) (q : Quant) (fr : Frame) (m : Memory) → code p run (e.Quant q) fr m ≡ Leaves
code_quant p run q fr m = rw (fold_out-Expr Code Calls (Unit {0}) (Unit {0}) (step_code p) (called run) (λ q. tt) (λ r. tt) (e.Quant q), e.outs-Quant q) refl

pub code_old : (p : Posed) (run : Run) (a : Expr) (fr : Frame) (m : Memory) → code p run (e.Old a) fr m ≡ Leaves
code_old p run a fr m = rw (fold_out-Expr Code Calls (Unit {0}) (Unit {0}) (step_code p) (called run) (λ q. tt) (λ r. tt) (e.Old a), e.outs-Old a) refl

pub code_has : (p : Posed) (run : Run) (r : Reach) (a : Expr) (fr : Frame) (m : Memory) → code p run (e.Has r a) fr m ≡ Leaves
code_has p run r a fr m = rw (fold_out-Expr Code Calls (Unit {0}) (Unit {0}) (step_code p) (called run) (λ q. tt) (λ r. tt) (e.Has r a), e.outs-Has r a) refl

pub code_size : (p : Posed) (run : Run) (r : Reach) (fr : Frame) (m : Memory) → code p run (e.Size r) fr m ≡ Leaves
code_size p run r fr m = rw (fold_out-Expr Code Calls (Unit {0}) (Unit {0}) (step_code p) (called run) (λ q. tt) (λ r. tt) (e.Size r), e.outs-Size r) refl

-- a call by its parts
call_layer : (p : Posed) (run : Run) (method : ℕ) (target : Option Expr) (args : List Expr) (fr : Frame) (m : Memory) → called run (map-Call Expr Call Quant Reach Code Calls (Unit {0}) (Unit {0}) (code p run) (call_of p run) (fold-Quant Code Calls (Unit {0}) (Unit {0}) (step_code p) (called run) (λ q. tt) (λ r. tt)) (fold-Reach Code Calls (Unit {0}) (Unit {0}) (step_code p) (called run) (λ q. tt) (λ r. tt)) (record { method = method; target = target; args = args })) fr m ≡ then_with (target_of (option_map (code p run) target) fr m) (λ this n. then_with (in_order (map (code p run) args) fr n) (λ vs l. entered run method this vs l))
call_layer p run method None args fr m = refl
call_layer p run method (Some t) args fr m = refl

pub call_form : (p : Posed) (run : Run) (c : Call) (fr : Frame) (m : Memory) → call_of p run c fr m ≡ then_with (target_of (option_map (code p run) (out-Call c).target) fr m) (λ this n. then_with (in_order (map (code p run) (out-Call c).args) fr n) (λ vs l. entered run (out-Call c).method this vs l))
call_form p run c fr m = rw (fold_out-Call Code Calls (Unit {0}) (Unit {0}) (step_code p) (called run) (λ q. tt) (λ r. tt) c) (call_layer p run (out-Call c).method (out-Call c).target (out-Call c).args fr m)

-- all forms of expressions of code
pub ruleset code_forms = (code_num, code_flag, code_null, code_this, code_local, code_read, code_neg, code_not, code_bin, code_new, code_call, code_result, code_bound, code_quant, code_old, code_has, code_size, call_form)

pub exec_block : (p : Posed) (run : Run) (parts : List Stmt) (fr : Frame) (m : Memory) → exec p run (s.Block parts) fr m ≡ in_turn (map (exec p run) parts) fr m
exec_block p run parts fr m = rw (fold_out-Stmt Body (step_stmt p run) (s.Block parts), s.outs-Block parts) refl

pub exec_set : (p : Posed) (run : Run) (i : ℕ) (a : Expr) (fr : Frame) (m : Memory) → exec p run (s.Set i a) fr m ≡ after (code p run a fr m) (set_local fr i)
exec_set p run i a fr m = rw (fold_out-Stmt Body (step_stmt p run) (s.Set i a), s.outs-Set i a) refl

pub exec_write : (p : Posed) (run : Run) (a : Expr) (f : ℕ) (b : Expr) (fr : Frame) (m : Memory) → exec p run (s.Write a f b) fr m ≡ after (code p run a fr m) (λ v n. after (code p run b fr n) (λ u l. after (on_object (λ o. write p f o u) v l) (λ z. Goes fr.locals)))
exec_write p run a f b fr m = rw (fold_out-Stmt Body (step_stmt p run) (s.Write a f b), s.outs-Write a f b) refl

pub exec_step_local : (p : Posed) (run : Run) (i : ℕ) (up : Bool) (fr : Frame) (m : Memory) → exec p run (s.StepLocal i up) fr m ≡ after (gives_in (slice_get fr.locals i) m) (λ v n. after (stepped p.scope.ints up v n) (set_local fr i))
exec_step_local p run i up fr m = rw (fold_out-Stmt Body (step_stmt p run) (s.StepLocal i up), s.outs-StepLocal i up) refl

pub exec_step_field : (p : Posed) (run : Run) (a : Expr) (f : ℕ) (up : Bool) (fr : Frame) (m : Memory) → exec p run (s.StepField a f up) fr m ≡ after (code p run a fr m) (λ v n. after (on_object (step_field p f up) v n) (λ z. Goes fr.locals))
exec_step_field p run a f up fr m = rw (fold_out-Stmt Body (step_stmt p run) (s.StepField a f up), s.outs-StepField a f up) refl

pub exec_if : (p : Posed) (run : Run) (a : Expr) (t : Stmt) (u : Stmt) (fr : Frame) (m : Memory) → exec p run (s.If a t u) fr m ≡ after_test (code p run a fr m) (λ b n. if b then exec p run t fr n else exec p run u fr n)
exec_if p run a t u fr m = rw (fold_out-Stmt Body (step_stmt p run) (s.If a t u), s.outs-If a t u) refl

pub exec_while : (p : Posed) (run : Run) (a : Expr) (t : Stmt) (fr : Frame) (m : Memory) → exec p run (s.While a t) fr m ≡ turns p.scope.loops (code p run a) (exec p run t) fr m
exec_while p run a t fr m = rw (fold_out-Stmt Body (step_stmt p run) (s.While a t), s.outs-While a t) refl

pub exec_return : (p : Posed) (run : Run) (a : Option Expr) (fr : Frame) (m : Memory) → exec p run (s.Return a) fr m ≡ give_back (option_map (code p run) a) fr m
exec_return p run a fr m = rw (fold_out-Stmt Body (step_stmt p run) (s.Return a), s.outs-Return a) refl

pub exec_run : (p : Posed) (run : Run) (c : Call) (fr : Frame) (m : Memory) → exec p run (s.Run c) fr m ≡ after (call_of p run c fr m) (λ v. Goes fr.locals)
exec_run p run c fr m = rw (fold_out-Stmt Body (step_stmt p run) (s.Run c), s.outs-Run c) refl

-- all forms of statements
pub ruleset exec_forms = (exec_block, exec_set, exec_write, exec_step_local, exec_step_field, exec_if, exec_while, exec_return, exec_run)

-- One equation for each form of code: what it costs.
use Rattle.std.proofs.Common.{◌≡◌, ℕ, ◌+◌, ◌*◌, Bool, List, Option, Some, None, refl, ap}
use Rattle.std.specs.Prelude.{ℤ, sum_by}
use Rattle.std.specs.Option.{option_map_or}
use Rattle.std.proofs.lemmas.List.Sums.{sum-map}
use Rattle.taco_unit.specs.declared.expr.Op.{Op}
use Rattle.taco_unit.specs.declared.expr.Expr.{Expr, fold_out-Expr}
use Rattle.taco_unit.specs.declared.expr.Call.{Call, fold_out-Call, out-Call, map-Call}
use Rattle.taco_unit.specs.declared.expr.Quant.{Quant, fold-Quant}
use Rattle.taco_unit.specs.declared.expr.Reach.{Reach, fold-Reach}
use Rattle.taco_unit.specs.declared.expr.Expr.TheVariants as e
use Rattle.taco_unit.specs.declared.stmt.Stmt.{Stmt, fold_out-Stmt}
use Rattle.taco_unit.specs.declared.stmt.Stmt.TheVariants as s
use Rattle.heap_core.specs.Posed.{Posed}
use Rattle.heap_run.specs.Cost.{step_code, step_call, step_stmt, cost_of_code, cost_of_call, cost_of_rest, cost_of_stmt}

pub cost_num : (call : ℕ) (z : ℤ) → cost_of_code call (e.Num z) ≡ 2
unfolding cost_of_code
cost_num call z = rw (fold_out-Expr ℕ ℕ (Unit {0}) (Unit {0}) step_code (step_call call) (λ q. tt) (λ r. tt) (e.Num z), e.outs-Num z) refl

pub cost_flag : (call : ℕ) (b : Bool) → cost_of_code call (e.Flag b) ≡ 2
unfolding cost_of_code
cost_flag call b = rw (fold_out-Expr ℕ ℕ (Unit {0}) (Unit {0}) step_code (step_call call) (λ q. tt) (λ r. tt) (e.Flag b), e.outs-Flag b) refl

pub cost_null : (call : ℕ) → cost_of_code call e.Null ≡ 2
unfolding cost_of_code
cost_null call = rw (fold_out-Expr ℕ ℕ (Unit {0}) (Unit {0}) step_code (step_call call) (λ q. tt) (λ r. tt) e.Null, e.outs-Null) refl

pub cost_this : (call : ℕ) → cost_of_code call e.This ≡ 2
unfolding cost_of_code
cost_this call = rw (fold_out-Expr ℕ ℕ (Unit {0}) (Unit {0}) step_code (step_call call) (λ q. tt) (λ r. tt) e.This, e.outs-This) refl

pub cost_local : (call : ℕ) (i : ℕ) → cost_of_code call (e.Local i) ≡ 2
unfolding cost_of_code
cost_local call i = rw (fold_out-Expr ℕ ℕ (Unit {0}) (Unit {0}) step_code (step_call call) (λ q. tt) (λ r. tt) (e.Local i), e.outs-Local i) refl

pub cost_read : (call : ℕ) (a : Expr) (f : ℕ) → cost_of_code call (e.Read a f) ≡ cost_of_code call a + 2
unfolding cost_of_code
cost_read call a f = rw (fold_out-Expr ℕ ℕ (Unit {0}) (Unit {0}) step_code (step_call call) (λ q. tt) (λ r. tt) (e.Read a f), e.outs-Read a f) refl

pub cost_neg : (call : ℕ) (a : Expr) → cost_of_code call (e.Neg a) ≡ cost_of_code call a + 2
unfolding cost_of_code
cost_neg call a = rw (fold_out-Expr ℕ ℕ (Unit {0}) (Unit {0}) step_code (step_call call) (λ q. tt) (λ r. tt) (e.Neg a), e.outs-Neg a) refl

pub cost_not : (call : ℕ) (a : Expr) → cost_of_code call (e.Not a) ≡ cost_of_code call a + 2
unfolding cost_of_code
cost_not call a = rw (fold_out-Expr ℕ ℕ (Unit {0}) (Unit {0}) step_code (step_call call) (λ q. tt) (λ r. tt) (e.Not a), e.outs-Not a) refl

pub cost_bin : (call : ℕ) (o : Op) (a b : Expr) → cost_of_code call (e.Bin o a b) ≡ cost_of_code call a + cost_of_code call b + 2
unfolding cost_of_code
cost_bin call o a b = rw (fold_out-Expr ℕ ℕ (Unit {0}) (Unit {0}) step_code (step_call call) (λ q. tt) (λ r. tt) (e.Bin o a b), e.outs-Bin o a b) refl

pub cost_new : (call : ℕ) (c : ℕ) → cost_of_code call (e.New c) ≡ 2
unfolding cost_of_code
cost_new call c = rw (fold_out-Expr ℕ ℕ (Unit {0}) (Unit {0}) step_code (step_call call) (λ q. tt) (λ r. tt) (e.New c), e.outs-New c) refl

pub cost_call : (call : ℕ) (c : Call) → cost_of_code call (e.Call c) ≡ cost_of_call call c
unfolding cost_of_code cost_of_call
cost_call call c = rw (fold_out-Expr ℕ ℕ (Unit {0}) (Unit {0}) step_code (step_call call) (λ q. tt) (λ r. tt) (e.Call c), e.outs-Call c) refl

pub cost_result : (call : ℕ) → cost_of_code call e.Result ≡ 2
unfolding cost_of_code
cost_result call = rw (fold_out-Expr ℕ ℕ (Unit {0}) (Unit {0}) step_code (step_call call) (λ q. tt) (λ r. tt) e.Result, e.outs-Result) refl

pub cost_bound : (call : ℕ) (i : ℕ) → cost_of_code call (e.Bound i) ≡ 2
unfolding cost_of_code
cost_bound call i = rw (fold_out-Expr ℕ ℕ (Unit {0}) (Unit {0}) step_code (step_call call) (λ q. tt) (λ r. tt) (e.Bound i), e.outs-Bound i) refl

pub cost_quant : (call : ℕ) (q : Quant) → cost_of_code call (e.Quant q) ≡ 2
unfolding cost_of_code
cost_quant call q = rw (fold_out-Expr ℕ ℕ (Unit {0}) (Unit {0}) step_code (step_call call) (λ q. tt) (λ r. tt) (e.Quant q), e.outs-Quant q) refl

pub cost_old : (call : ℕ) (a : Expr) → cost_of_code call (e.Old a) ≡ 2
unfolding cost_of_code
cost_old call a = rw (fold_out-Expr ℕ ℕ (Unit {0}) (Unit {0}) step_code (step_call call) (λ q. tt) (λ r. tt) (e.Old a), e.outs-Old a) refl

pub cost_has : (call : ℕ) (r : Reach) (a : Expr) → cost_of_code call (e.Has r a) ≡ 2
unfolding cost_of_code
cost_has call r a = rw (fold_out-Expr ℕ ℕ (Unit {0}) (Unit {0}) step_code (step_call call) (λ q. tt) (λ r. tt) (e.Has r a), e.outs-Has r a) refl

pub cost_size : (call : ℕ) (r : Reach) → cost_of_code call (e.Size r) ≡ 2
unfolding cost_of_code
cost_size call r = rw (fold_out-Expr ℕ ℕ (Unit {0}) (Unit {0}) step_code (step_call call) (λ q. tt) (λ r. tt) (e.Size r), e.outs-Size r) refl

-- a call by its parts
call_layer : (call : ℕ) (method : ℕ) (target : Option Expr) (args : List Expr) → step_call call (map-Call Expr Call Quant Reach ℕ ℕ (Unit {0}) (Unit {0}) (cost_of_code call) (cost_of_call call) (fold-Quant ℕ ℕ (Unit {0}) (Unit {0}) step_code (step_call call) (λ q. tt) (λ r. tt)) (fold-Reach ℕ ℕ (Unit {0}) (Unit {0}) step_code (step_call call) (λ q. tt) (λ r. tt)) (record { method = method; target = target; args = args })) ≡ option_map_or (cost_of_code call) target 0 + cost_of_rest call args + call + 2
unfolding cost_of_rest
call_layer call method None args = rw (sum-map (cost_of_code call) args) refl
call_layer call method (Some t) args = rw (sum-map (cost_of_code call) args) refl

pub cost_form : (call : ℕ) (c : Call) → cost_of_call call c ≡ option_map_or (cost_of_code call) (out-Call c).target 0 + cost_of_rest call (out-Call c).args + call + 2
unfolding cost_of_call
cost_form call c = rw (fold_out-Call ℕ ℕ (Unit {0}) (Unit {0}) step_code (step_call call) (λ q. tt) (λ r. tt) c) (unfold cost_of_code in unfold cost_of_call in call_layer call (out-Call c).method (out-Call c).target (out-Call c).args)

pub cost_block : (p : Posed) (call : ℕ) (parts : List Stmt) → cost_of_stmt p call (s.Block parts) ≡ sum_by (cost_of_stmt p call) parts + 2
unfolding cost_of_stmt
cost_block p call parts = rw (fold_out-Stmt ℕ (step_stmt p call) (s.Block parts), s.outs-Block parts) (ap (λ n. n + 2) (sum-map (cost_of_stmt p call) parts))

pub cost_set : (p : Posed) (call : ℕ) (i : ℕ) (a : Expr) → cost_of_stmt p call (s.Set i a) ≡ cost_of_code call a + 2
unfolding cost_of_stmt
cost_set p call i a = rw (fold_out-Stmt ℕ (step_stmt p call) (s.Set i a), s.outs-Set i a) refl

pub cost_write : (p : Posed) (call : ℕ) (a : Expr) (f : ℕ) (b : Expr) → cost_of_stmt p call (s.Write a f b) ≡ cost_of_code call a + cost_of_code call b + 2
unfolding cost_of_stmt
cost_write p call a f b = rw (fold_out-Stmt ℕ (step_stmt p call) (s.Write a f b), s.outs-Write a f b) refl

pub cost_step_local : (p : Posed) (call : ℕ) (i : ℕ) (up : Bool) → cost_of_stmt p call (s.StepLocal i up) ≡ 2
unfolding cost_of_stmt
cost_step_local p call i up = rw (fold_out-Stmt ℕ (step_stmt p call) (s.StepLocal i up), s.outs-StepLocal i up) refl

pub cost_step_field : (p : Posed) (call : ℕ) (a : Expr) (f : ℕ) (up : Bool) → cost_of_stmt p call (s.StepField a f up) ≡ cost_of_code call a + 2
unfolding cost_of_stmt
cost_step_field p call a f up = rw (fold_out-Stmt ℕ (step_stmt p call) (s.StepField a f up), s.outs-StepField a f up) refl

pub cost_if : (p : Posed) (call : ℕ) (a : Expr) (t u : Stmt) → cost_of_stmt p call (s.If a t u) ≡ cost_of_code call a + cost_of_stmt p call t + cost_of_stmt p call u + 2
unfolding cost_of_stmt
cost_if p call a t u = rw (fold_out-Stmt ℕ (step_stmt p call) (s.If a t u), s.outs-If a t u) refl

pub cost_while : (p : Posed) (call : ℕ) (a : Expr) (t : Stmt) → cost_of_stmt p call (s.While a t) ≡ cost_of_code call a + p.scope.loops * (cost_of_code call a + cost_of_stmt p call t) + 2
unfolding cost_of_stmt
cost_while p call a t = rw (fold_out-Stmt ℕ (step_stmt p call) (s.While a t), s.outs-While a t) refl

pub cost_return : (p : Posed) (call : ℕ) (a : Expr) → cost_of_stmt p call (s.Return (Some a)) ≡ cost_of_code call a + 2
unfolding cost_of_stmt
cost_return p call a = rw (fold_out-Stmt ℕ (step_stmt p call) (s.Return (Some a)), s.outs-Return (Some a)) refl

pub cost_return_none : (p : Posed) (call : ℕ) → cost_of_stmt p call (s.Return None) ≡ 2
unfolding cost_of_stmt
cost_return_none p call = rw (fold_out-Stmt ℕ (step_stmt p call) (s.Return None), s.outs-Return None) refl

pub cost_run : (p : Posed) (call : ℕ) (c : Call) → cost_of_stmt p call (s.Run c) ≡ cost_of_call call c
unfolding cost_of_stmt
cost_run p call c = rw (fold_out-Stmt ℕ (step_stmt p call) (s.Run c), s.outs-Run c) refl

-- One equation for each form: how expressions, calls and statements are lowered, and the greatest variable of a step.
use Rattle.std.proofs.Common.{◌≡◌, ℕ, Bool, List, Option, Some, None, refl, ap}
use Rattle.std.specs.Prelude.{ℤ, map, option_map, max}
use Rattle.taco_unit.specs.declared.kind.Kind.{Kind}
use Rattle.taco_unit.specs.declared.expr.Op.{Op}
use Rattle.taco_unit.specs.declared.expr.Expr.{Expr, fold_out-Expr}
use Rattle.taco_unit.specs.declared.expr.Call.{Call, fold_out-Call, out-Call, map-Call}
use Rattle.taco_unit.specs.declared.expr.Quant.{Quant, fold-Quant}
use Rattle.taco_unit.specs.declared.expr.Reach.{Reach, fold-Reach}
use Rattle.taco_unit.specs.declared.expr.Expr.TheOpen.{Expr-F}
use Rattle.taco_unit.specs.declared.expr.Expr.TheVariants as e
use Rattle.taco_unit.specs.declared.stmt.Stmt.{Stmt, fold_out-Stmt}
use Rattle.taco_unit.specs.declared.stmt.Stmt.TheOpen.{Stmt-F}
use Rattle.taco_unit.specs.declared.stmt.Stmt.TheVariants as s
use Rattle.dyn_core.specs.declared.prog.Act.{Act}
use Rattle.dyn_plan.specs.declared.plan.Plan.{Plan, fold-Plan, fold_out-Plan}
use Rattle.dyn_plan.specs.declared.plan.Plan.TheVariants as l
use Rattle.dyn_plan.specs.Places.{Ground, Spots}
use Rattle.dyn_plan.specs.Expressions.{Low, LowCall, Inline, kind_step, low_step, expr_step, called_low, low_expr, low_call}
use Rattle.dyn_plan.specs.Statements.{Lay, lay_step, lay}
use Rattle.dyn_plan.specs.Whole.{greatest_of_act, greatest_step, greatest}

-- ## expressions

pub is_num : (g : Ground) (inline : Inline) (z : ℤ) → low_expr g inline (e.Num z) ≡ expr_step g (Expr-F.Num z)
is_num g inline z = rw (fold_out-Expr Low LowCall (Unit {0}) (Unit {0}) (expr_step g) (called_low g inline) (λ q. tt) (λ r. tt) (e.Num z), e.outs-Num z) refl

pub is_flag : (g : Ground) (inline : Inline) (x : Bool) → low_expr g inline (e.Flag x) ≡ expr_step g (Expr-F.Flag x)
is_flag g inline x = rw (fold_out-Expr Low LowCall (Unit {0}) (Unit {0}) (expr_step g) (called_low g inline) (λ q. tt) (λ r. tt) (e.Flag x), e.outs-Flag x) refl

pub is_null : (g : Ground) (inline : Inline) → low_expr g inline e.Null ≡ expr_step g Expr-F.Null
is_null g inline = rw (fold_out-Expr Low LowCall (Unit {0}) (Unit {0}) (expr_step g) (called_low g inline) (λ q. tt) (λ r. tt) e.Null, e.outs-Null) refl

pub is_this : (g : Ground) (inline : Inline) → low_expr g inline e.This ≡ expr_step g Expr-F.This
is_this g inline = rw (fold_out-Expr Low LowCall (Unit {0}) (Unit {0}) (expr_step g) (called_low g inline) (λ q. tt) (λ r. tt) e.This, e.outs-This) refl

pub is_result : (g : Ground) (inline : Inline) → low_expr g inline e.Result ≡ expr_step g Expr-F.Result
is_result g inline = rw (fold_out-Expr Low LowCall (Unit {0}) (Unit {0}) (expr_step g) (called_low g inline) (λ q. tt) (λ r. tt) e.Result, e.outs-Result) refl

pub is_local : (g : Ground) (inline : Inline) (i : ℕ) → low_expr g inline (e.Local i) ≡ expr_step g (Expr-F.Local i)
is_local g inline i = rw (fold_out-Expr Low LowCall (Unit {0}) (Unit {0}) (expr_step g) (called_low g inline) (λ q. tt) (λ r. tt) (e.Local i), e.outs-Local i) refl

pub is_bound : (g : Ground) (inline : Inline) (i : ℕ) → low_expr g inline (e.Bound i) ≡ expr_step g (Expr-F.Bound i)
is_bound g inline i = rw (fold_out-Expr Low LowCall (Unit {0}) (Unit {0}) (expr_step g) (called_low g inline) (λ q. tt) (λ r. tt) (e.Bound i), e.outs-Bound i) refl

pub is_read : (g : Ground) (inline : Inline) (a : Expr) (i : ℕ) → low_expr g inline (e.Read a i) ≡ expr_step g (Expr-F.Read (low_expr g inline a) i)
is_read g inline a i = rw (fold_out-Expr Low LowCall (Unit {0}) (Unit {0}) (expr_step g) (called_low g inline) (λ q. tt) (λ r. tt) (e.Read a i), e.outs-Read a i) refl

pub is_neg : (g : Ground) (inline : Inline) (a : Expr) → low_expr g inline (e.Neg a) ≡ expr_step g (Expr-F.Neg (low_expr g inline a))
is_neg g inline a = rw (fold_out-Expr Low LowCall (Unit {0}) (Unit {0}) (expr_step g) (called_low g inline) (λ q. tt) (λ r. tt) (e.Neg a), e.outs-Neg a) refl

pub is_not : (g : Ground) (inline : Inline) (a : Expr) → low_expr g inline (e.Not a) ≡ expr_step g (Expr-F.Not (low_expr g inline a))
is_not g inline a = rw (fold_out-Expr Low LowCall (Unit {0}) (Unit {0}) (expr_step g) (called_low g inline) (λ q. tt) (λ r. tt) (e.Not a), e.outs-Not a) refl

pub is_bin : (g : Ground) (inline : Inline) (o : Op) (a : Expr) (c : Expr) → low_expr g inline (e.Bin o a c) ≡ expr_step g (Expr-F.Bin o (low_expr g inline a) (low_expr g inline c))
is_bin g inline o a c = rw (fold_out-Expr Low LowCall (Unit {0}) (Unit {0}) (expr_step g) (called_low g inline) (λ q. tt) (λ r. tt) (e.Bin o a c), e.outs-Bin o a c) refl

pub is_quant : (g : Ground) (inline : Inline) (q : Quant) → low_expr g inline (e.Quant q) ≡ expr_step g (Expr-F.Quant tt)
is_quant g inline q = rw (fold_out-Expr Low LowCall (Unit {0}) (Unit {0}) (expr_step g) (called_low g inline) (λ q. tt) (λ r. tt) (e.Quant q), e.outs-Quant q) refl

pub is_old : (g : Ground) (inline : Inline) (a : Expr) → low_expr g inline (e.Old a) ≡ expr_step g (Expr-F.Old (low_expr g inline a))
is_old g inline a = rw (fold_out-Expr Low LowCall (Unit {0}) (Unit {0}) (expr_step g) (called_low g inline) (λ q. tt) (λ r. tt) (e.Old a), e.outs-Old a) refl

pub is_has : (g : Ground) (inline : Inline) (r : Reach) (a : Expr) → low_expr g inline (e.Has r a) ≡ expr_step g (Expr-F.Has tt (low_expr g inline a))
is_has g inline r a = rw (fold_out-Expr Low LowCall (Unit {0}) (Unit {0}) (expr_step g) (called_low g inline) (λ q. tt) (λ r. tt) (e.Has r a), e.outs-Has r a) refl

pub is_size : (g : Ground) (inline : Inline) (r : Reach) → low_expr g inline (e.Size r) ≡ expr_step g (Expr-F.Size tt)
is_size g inline r = rw (fold_out-Expr Low LowCall (Unit {0}) (Unit {0}) (expr_step g) (called_low g inline) (λ q. tt) (λ r. tt) (e.Size r), e.outs-Size r) refl

pub is_new : (g : Ground) (inline : Inline) (c : ℕ) → low_expr g inline (e.New c) ≡ expr_step g (Expr-F.New c)
is_new g inline c = rw (fold_out-Expr Low LowCall (Unit {0}) (Unit {0}) (expr_step g) (called_low g inline) (λ q. tt) (λ r. tt) (e.New c), e.outs-New c) refl

pub is_call : (g : Ground) (inline : Inline) (c : Call) → low_expr g inline (e.Call c) ≡ expr_step g (Expr-F.Call (low_call g inline c))
is_call g inline c = rw (fold_out-Expr Low LowCall (Unit {0}) (Unit {0}) (expr_step g) (called_low g inline) (λ q. tt) (λ r. tt) (e.Call c), e.outs-Call c) refl

-- a call by its parts
call_layer : (g : Ground) (inline : Inline) (method : ℕ) (target : Option Expr) (args : List Expr)
    → called_low g inline (map-Call Expr Call Quant Reach Low LowCall (Unit {0}) (Unit {0}) (low_expr g inline) (low_call g inline)
    (fold-Quant Low LowCall (Unit {0}) (Unit {0}) (expr_step g) (called_low g inline) (λ q. tt) (λ r. tt))
    (fold-Reach Low LowCall (Unit {0}) (Unit {0}) (expr_step g) (called_low g inline) (λ q. tt) (λ r. tt)) (record { method = method; target = target; args = args })) ≡ called_low
    g inline (record { method = method; target = option_map (low_expr g inline) target; args = map (low_expr g inline) args })
call_layer g inline method None args = refl
call_layer g inline method (Some t) args = refl

pub is_called : (g : Ground) (inline : Inline) (c : Call)
    → low_call g inline c ≡ called_low g inline
    (record { method = (out-Call c).method; target = option_map (low_expr g inline) (out-Call c).target; args = map (low_expr g inline) (out-Call c).args })
is_called g inline c = rw (fold_out-Call Low LowCall (Unit {0}) (Unit {0}) (expr_step g) (called_low g inline) (λ q. tt) (λ r. tt) c)
    (call_layer g inline (out-Call c).method (out-Call c).target (out-Call c).args)

pub low_num : (g : Ground) (inline : Inline) (z : ℤ) (k : Kind) (f : Spots) (b : ℕ) → (low_expr g inline (e.Num z)).low k f b ≡ low_step g (Expr-F.Num z) k f b
low_num g inline z k f b = ap (λ l. l.low k f b) (is_num g inline z)

pub low_flag : (g : Ground) (inline : Inline) (x : Bool) (k : Kind) (f : Spots) (b : ℕ) → (low_expr g inline (e.Flag x)).low k f b ≡ low_step g (Expr-F.Flag x) k f b
low_flag g inline x k f b = ap (λ l. l.low k f b) (is_flag g inline x)

pub low_null : (g : Ground) (inline : Inline) (k : Kind) (f : Spots) (b : ℕ) → (low_expr g inline e.Null).low k f b ≡ low_step g Expr-F.Null k f b
low_null g inline k f b = ap (λ l. l.low k f b) (is_null g inline)

pub low_this : (g : Ground) (inline : Inline) (k : Kind) (f : Spots) (b : ℕ) → (low_expr g inline e.This).low k f b ≡ low_step g Expr-F.This k f b
low_this g inline k f b = ap (λ l. l.low k f b) (is_this g inline)

pub low_result : (g : Ground) (inline : Inline) (k : Kind) (f : Spots) (b : ℕ) → (low_expr g inline e.Result).low k f b ≡ low_step g Expr-F.Result k f b
low_result g inline k f b = ap (λ l. l.low k f b) (is_result g inline)

pub low_local : (g : Ground) (inline : Inline) (i : ℕ) (k : Kind) (f : Spots) (b : ℕ) → (low_expr g inline (e.Local i)).low k f b ≡ low_step g (Expr-F.Local i) k f b
low_local g inline i k f b = ap (λ l. l.low k f b) (is_local g inline i)

pub low_bound : (g : Ground) (inline : Inline) (i : ℕ) (k : Kind) (f : Spots) (b : ℕ) → (low_expr g inline (e.Bound i)).low k f b ≡ low_step g (Expr-F.Bound i) k f b
low_bound g inline i k f b = ap (λ l. l.low k f b) (is_bound g inline i)

pub low_read : (g : Ground) (inline : Inline) (a : Expr) (i : ℕ) (k : Kind) (f : Spots) (b : ℕ) → (low_expr g inline (e.Read a i)).low k f b ≡ low_step g
    (Expr-F.Read (low_expr g inline a) i) k f b
low_read g inline a i k f b = ap (λ l. l.low k f b) (is_read g inline a i)

pub low_neg : (g : Ground) (inline : Inline) (a : Expr) (k : Kind) (f : Spots) (b : ℕ) → (low_expr g inline (e.Neg a)).low k f b ≡ low_step g (Expr-F.Neg (low_expr g inline a)) k f b
low_neg g inline a k f b = ap (λ l. l.low k f b) (is_neg g inline a)

pub low_not : (g : Ground) (inline : Inline) (a : Expr) (k : Kind) (f : Spots) (b : ℕ) → (low_expr g inline (e.Not a)).low k f b ≡ low_step g (Expr-F.Not (low_expr g inline a)) k f b
low_not g inline a k f b = ap (λ l. l.low k f b) (is_not g inline a)

pub low_bin : (g : Ground) (inline : Inline) (o : Op) (a : Expr) (c : Expr) (k : Kind) (f : Spots) (b : ℕ) → (low_expr g inline (e.Bin o a c)).low k f b ≡ low_step g
    (Expr-F.Bin o (low_expr g inline a) (low_expr g inline c)) k f b
low_bin g inline o a c k f b = ap (λ l. l.low k f b) (is_bin g inline o a c)

pub low_quant : (g : Ground) (inline : Inline) (q : Quant) (k : Kind) (f : Spots) (b : ℕ) → (low_expr g inline (e.Quant q)).low k f b ≡ low_step g (Expr-F.Quant tt) k f b
low_quant g inline q k f b = ap (λ l. l.low k f b) (is_quant g inline q)

pub low_old : (g : Ground) (inline : Inline) (a : Expr) (k : Kind) (f : Spots) (b : ℕ) → (low_expr g inline (e.Old a)).low k f b ≡ low_step g (Expr-F.Old (low_expr g inline a)) k f b
low_old g inline a k f b = ap (λ l. l.low k f b) (is_old g inline a)

pub low_has : (g : Ground) (inline : Inline) (r : Reach) (a : Expr) (k : Kind) (f : Spots) (b : ℕ) → (low_expr g inline (e.Has r a)).low k f b ≡ low_step g
    (Expr-F.Has tt (low_expr g inline a)) k f b
low_has g inline r a k f b = ap (λ l. l.low k f b) (is_has g inline r a)

pub low_size : (g : Ground) (inline : Inline) (r : Reach) (k : Kind) (f : Spots) (b : ℕ) → (low_expr g inline (e.Size r)).low k f b ≡ low_step g (Expr-F.Size tt) k f b
low_size g inline r k f b = ap (λ l. l.low k f b) (is_size g inline r)

pub low_new : (g : Ground) (inline : Inline) (c : ℕ) (k : Kind) (f : Spots) (b : ℕ) → (low_expr g inline (e.New c)).low k f b ≡ low_step g (Expr-F.New c) k f b
low_new g inline c k f b = ap (λ l. l.low k f b) (is_new g inline c)

pub low_of_call : (g : Ground) (inline : Inline) (c : Call) (k : Kind) (f : Spots) (b : ℕ) → (low_expr g inline (e.Call c)).low k f b ≡ low_step g (Expr-F.Call (low_call g inline c)) k f b
low_of_call g inline c k f b = ap (λ l. l.low k f b) (is_call g inline c)

pub low_called : (g : Ground) (inline : Inline) (c : Call) (wanted : Bool) (f : Spots) (b : ℕ)
    → (low_call g inline c).low wanted f
    b ≡ (called_low g inline
    (record { method = (out-Call c).method; target = option_map (low_expr g inline) (out-Call c).target; args = map (low_expr g inline) (out-Call c).args })).low wanted f b
low_called g inline c wanted f b = ap (λ l. l.low wanted f b) (is_called g inline c)

-- all forms of expressions
pub ruleset low_forms = (
  low_num,
  low_flag,
  low_null,
  low_this,
  low_result,
  low_local,
  low_bound,
  low_read,
  low_neg,
  low_not,
  low_bin,
  low_quant,
  low_old,
  low_has,
  low_size,
  low_new,
  low_of_call,
  low_called,
)

-- ## their kinds

pub kind_num : (g : Ground) (inline : Inline) (z : ℤ) (f : Spots) → (low_expr g inline (e.Num z)).kind f ≡ kind_step g (Expr-F.Num z) f
kind_num g inline z f = ap (λ l. l.kind f) (is_num g inline z)

pub kind_flag : (g : Ground) (inline : Inline) (x : Bool) (f : Spots) → (low_expr g inline (e.Flag x)).kind f ≡ kind_step g (Expr-F.Flag x) f
kind_flag g inline x f = ap (λ l. l.kind f) (is_flag g inline x)

pub kind_null : (g : Ground) (inline : Inline) (f : Spots) → (low_expr g inline e.Null).kind f ≡ kind_step g Expr-F.Null f
kind_null g inline f = ap (λ l. l.kind f) (is_null g inline)

pub kind_this : (g : Ground) (inline : Inline) (f : Spots) → (low_expr g inline e.This).kind f ≡ kind_step g Expr-F.This f
kind_this g inline f = ap (λ l. l.kind f) (is_this g inline)

pub kind_result : (g : Ground) (inline : Inline) (f : Spots) → (low_expr g inline e.Result).kind f ≡ kind_step g Expr-F.Result f
kind_result g inline f = ap (λ l. l.kind f) (is_result g inline)

pub kind_local : (g : Ground) (inline : Inline) (i : ℕ) (f : Spots) → (low_expr g inline (e.Local i)).kind f ≡ kind_step g (Expr-F.Local i) f
kind_local g inline i f = ap (λ l. l.kind f) (is_local g inline i)

pub kind_bound : (g : Ground) (inline : Inline) (i : ℕ) (f : Spots) → (low_expr g inline (e.Bound i)).kind f ≡ kind_step g (Expr-F.Bound i) f
kind_bound g inline i f = ap (λ l. l.kind f) (is_bound g inline i)

pub kind_read : (g : Ground) (inline : Inline) (a : Expr) (i : ℕ) (f : Spots) → (low_expr g inline (e.Read a i)).kind f ≡ kind_step g (Expr-F.Read (low_expr g inline a) i) f
kind_read g inline a i f = ap (λ l. l.kind f) (is_read g inline a i)

pub kind_neg : (g : Ground) (inline : Inline) (a : Expr) (f : Spots) → (low_expr g inline (e.Neg a)).kind f ≡ kind_step g (Expr-F.Neg (low_expr g inline a)) f
kind_neg g inline a f = ap (λ l. l.kind f) (is_neg g inline a)

pub kind_not : (g : Ground) (inline : Inline) (a : Expr) (f : Spots) → (low_expr g inline (e.Not a)).kind f ≡ kind_step g (Expr-F.Not (low_expr g inline a)) f
kind_not g inline a f = ap (λ l. l.kind f) (is_not g inline a)

pub kind_bin : (g : Ground) (inline : Inline) (o : Op) (a : Expr) (c : Expr) (f : Spots) → (low_expr g inline (e.Bin o a c)).kind f ≡ kind_step g
    (Expr-F.Bin o (low_expr g inline a) (low_expr g inline c)) f
kind_bin g inline o a c f = ap (λ l. l.kind f) (is_bin g inline o a c)

pub kind_quant : (g : Ground) (inline : Inline) (q : Quant) (f : Spots) → (low_expr g inline (e.Quant q)).kind f ≡ kind_step g (Expr-F.Quant tt) f
kind_quant g inline q f = ap (λ l. l.kind f) (is_quant g inline q)

pub kind_old : (g : Ground) (inline : Inline) (a : Expr) (f : Spots) → (low_expr g inline (e.Old a)).kind f ≡ kind_step g (Expr-F.Old (low_expr g inline a)) f
kind_old g inline a f = ap (λ l. l.kind f) (is_old g inline a)

pub kind_has : (g : Ground) (inline : Inline) (r : Reach) (a : Expr) (f : Spots) → (low_expr g inline (e.Has r a)).kind f ≡ kind_step g (Expr-F.Has tt (low_expr g inline a)) f
kind_has g inline r a f = ap (λ l. l.kind f) (is_has g inline r a)

pub kind_size : (g : Ground) (inline : Inline) (r : Reach) (f : Spots) → (low_expr g inline (e.Size r)).kind f ≡ kind_step g (Expr-F.Size tt) f
kind_size g inline r f = ap (λ l. l.kind f) (is_size g inline r)

pub kind_new : (g : Ground) (inline : Inline) (c : ℕ) (f : Spots) → (low_expr g inline (e.New c)).kind f ≡ kind_step g (Expr-F.New c) f
kind_new g inline c f = ap (λ l. l.kind f) (is_new g inline c)

pub kind_of_call : (g : Ground) (inline : Inline) (c : Call) (f : Spots) → (low_expr g inline (e.Call c)).kind f ≡ kind_step g (Expr-F.Call (low_call g inline c)) f
kind_of_call g inline c f = ap (λ l. l.kind f) (is_call g inline c)

pub kind_called : (g : Ground) (inline : Inline) (c : Call)
    → (low_call g inline c).kind ≡ (called_low g inline
    (record { method = (out-Call c).method; target = option_map (low_expr g inline) (out-Call c).target; args = map (low_expr g inline) (out-Call c).args })).kind
kind_called g inline c = ap (λ l. l.kind) (is_called g inline c)

-- all forms of their kinds
pub ruleset kind_forms = (
  kind_num,
  kind_flag,
  kind_null,
  kind_this,
  kind_result,
  kind_local,
  kind_bound,
  kind_read,
  kind_neg,
  kind_not,
  kind_bin,
  kind_quant,
  kind_old,
  kind_has,
  kind_size,
  kind_new,
  kind_of_call,
  kind_called,
)

-- ## statements

pub lay_block : (g : Ground) (inline : Inline) (parts : List Stmt) (f : Spots) → lay g inline (s.Block parts) f ≡ lay_step g inline (Stmt-F.Block (map (lay g inline) parts)) f
lay_block g inline parts f = rw (fold_out-Stmt Lay (lay_step g inline) (s.Block parts), s.outs-Block parts) refl

pub lay_set : (g : Ground) (inline : Inline) (i : ℕ) (a : Expr) (f : Spots) → lay g inline (s.Set i a) f ≡ lay_step g inline (Stmt-F.Set i a) f
lay_set g inline i a f = rw (fold_out-Stmt Lay (lay_step g inline) (s.Set i a), s.outs-Set i a) refl

pub lay_write : (g : Ground) (inline : Inline) (a : Expr) (i : ℕ) (c : Expr) (f : Spots) → lay g inline (s.Write a i c) f ≡ lay_step g inline (Stmt-F.Write a i c) f
lay_write g inline a i c f = rw (fold_out-Stmt Lay (lay_step g inline) (s.Write a i c), s.outs-Write a i c) refl

pub lay_step_local : (g : Ground) (inline : Inline) (i : ℕ) (up : Bool) (f : Spots) → lay g inline (s.StepLocal i up) f ≡ lay_step g inline (Stmt-F.StepLocal i up) f
lay_step_local g inline i up f = rw (fold_out-Stmt Lay (lay_step g inline) (s.StepLocal i up), s.outs-StepLocal i up) refl

pub lay_step_field : (g : Ground) (inline : Inline) (a : Expr) (i : ℕ) (up : Bool) (f : Spots) → lay g inline (s.StepField a i up) f ≡ lay_step g inline (Stmt-F.StepField a i up) f
lay_step_field g inline a i up f = rw (fold_out-Stmt Lay (lay_step g inline) (s.StepField a i up), s.outs-StepField a i up) refl

pub lay_if : (g : Ground) (inline : Inline) (a : Expr) (t : Stmt) (u : Stmt) (f : Spots) → lay g inline (s.If a t u) f ≡ lay_step g inline (Stmt-F.If a (lay g inline t) (lay g inline u)) f
lay_if g inline a t u f = rw (fold_out-Stmt Lay (lay_step g inline) (s.If a t u), s.outs-If a t u) refl

pub lay_while : (g : Ground) (inline : Inline) (a : Expr) (t : Stmt) (f : Spots) → lay g inline (s.While a t) f ≡ lay_step g inline (Stmt-F.While a (lay g inline t)) f
lay_while g inline a t f = rw (fold_out-Stmt Lay (lay_step g inline) (s.While a t), s.outs-While a t) refl

pub lay_return : (g : Ground) (inline : Inline) (a : Option Expr) (f : Spots) → lay g inline (s.Return a) f ≡ lay_step g inline (Stmt-F.Return a) f
lay_return g inline a f = rw (fold_out-Stmt Lay (lay_step g inline) (s.Return a), s.outs-Return a) refl

pub lay_run : (g : Ground) (inline : Inline) (c : Call) (f : Spots) → lay g inline (s.Run c) f ≡ lay_step g inline (Stmt-F.Run c) f
lay_run g inline c f = rw (fold_out-Stmt Lay (lay_step g inline) (s.Run c), s.outs-Run c) refl

-- all forms of statements
pub ruleset lay_forms = (lay_block, lay_set, lay_write, lay_step_local, lay_step_field, lay_if, lay_while, lay_return, lay_run)

-- ## the greatest variable

pub greatest_do : (a : Act) → fold-Plan ℕ greatest_step (l.Do a) ≡ greatest_of_act a
greatest_do a = rw (fold_out-Plan ℕ greatest_step (l.Do a), l.outs-Do a) refl

pub greatest_fail : fold-Plan ℕ greatest_step l.Fail ≡ 0
greatest_fail = rw (fold_out-Plan ℕ greatest_step l.Fail, l.outs-Fail) refl

pub greatest_if : (x : ℕ) (taken : List Plan) (other : List Plan) → fold-Plan ℕ greatest_step (l.If x taken other) ≡ max x (max (greatest taken) (greatest other))
greatest_if x taken other = rw (fold_out-Plan ℕ greatest_step (l.If x taken other), l.outs-If x taken other) refl

pub greatest_while : (x : ℕ) (body : List Plan) → fold-Plan ℕ greatest_step (l.While x body) ≡ max x (greatest body)
greatest_while x body = rw (fold_out-Plan ℕ greatest_step (l.While x body), l.outs-While x body) refl

-- all forms of the greatest variable
pub ruleset greatest_forms = (greatest_do, greatest_fail, greatest_if, greatest_while)

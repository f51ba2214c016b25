-- Expressions and statements whose lowering computes: built of their parts, as the worked rows use them.
use Rattle.std.proofs.Common.{◌≡◌, ℕ, Bool, false, List, [], ◌∷◌, Some, None, refl, ◌∙◌, ap}
use Rattle.std.specs.Prelude.{ℤ, map, slice_get}
use Rattle.taco_unit.specs.declared.kind.Kind.TheVariants.{Int, Flag}
use Rattle.taco_unit.specs.declared.expr.Op.{Op}
use Rattle.taco_unit.specs.declared.expr.Expr.{Expr}
use Rattle.taco_unit.specs.declared.expr.Call.{Call, roll-Call}
use Rattle.taco_unit.specs.declared.expr.Expr.TheOpen.{Expr-F}
use Rattle.taco_unit.specs.declared.expr.Expr.TheVariants as e
use Rattle.taco_unit.specs.declared.stmt.Stmt.{Stmt}
use Rattle.taco_unit.specs.declared.stmt.Stmt.TheVariants as s
use Rattle.dyn_plan.specs.Places.{Ground, Spots}
use Rattle.dyn_plan.specs.Guards.{Lowered}
use Rattle.dyn_plan.specs.Expressions.{Low, LowCall, Inline, kind_or, expr_step, called_low, low_expr, low_call}
use Rattle.dyn_plan.specs.Statements.{Laid, value_then, set_to, lay_block, step_local, while_low, return_value, lay}
use Rattle.dyn_plan.proofs.LowForms.{is_num, is_local, is_read, is_bin, is_call, is_called, lay_block as block_form, lay_set, lay_step_local, lay_while, lay_return}

pub record KnownExpr (g : Ground) (inline : Inline) (a : Expr) : Type 0 where
  pub low : Low
  pub is : low_expr g inline a ≡ low

pub record KnownCall (g : Ground) (inline : Inline) (c : Call) : Type 0 where
  pub low : LowCall
  pub is : low_call g inline c ≡ low

pub record KnownStmt (g : Ground) (inline : Inline) (f : Spots) (t : Stmt) : Type 0 where
  pub laid : Laid
  pub is : lay g inline t f ≡ laid

module _ {g : Ground} {inline : Inline} where
  abbrev pub num : (z : ℤ) → KnownExpr g inline (e.Num z)
  num z = record { low = expr_step g (Expr-F.Num z); is = is_num g inline z }

  abbrev pub local : (i : ℕ) → KnownExpr g inline (e.Local i)
  local i = record { low = expr_step g (Expr-F.Local i); is = is_local g inline i }

  abbrev pub read : {a : Expr} → KnownExpr g inline a → (i : ℕ) → KnownExpr g inline (e.Read a i)
  read {a} x i = record { low = expr_step g (Expr-F.Read x.low i); is = is_read g inline a i ∙ ap (λ y. expr_step g (Expr-F.Read y i)) x.is }

  abbrev pub bin : (o : Op) {a c : Expr} → KnownExpr g inline a → KnownExpr g inline c → KnownExpr g inline (e.Bin o a c)
  bin o {a} {c} x y = record {
    low = expr_step g (Expr-F.Bin o x.low y.low);
    is = is_bin g inline o a c ∙ ap (λ z. expr_step g (Expr-F.Bin o z (low_expr g inline c))) x.is ∙ ap (λ z. expr_step g (Expr-F.Bin o x.low z)) y.is;
  }

  abbrev pub call : {c : Call} → KnownCall g inline c → KnownExpr g inline (e.Call c)
  call {c} x = record { low = expr_step g (Expr-F.Call x.low); is = is_call g inline c ∙ ap (λ y. expr_step g (Expr-F.Call y)) x.is }

  abbrev pub call_on : (m : ℕ) {a x : Expr} → KnownExpr g inline a → KnownExpr g inline x → KnownCall g inline (roll-Call (record { method = m; target = Some a; args = x ∷ [] }))
  call_on m {a} {x} target arg = record {
    low = called_low g inline (record { method = m; target = Some target.low; args = arg.low ∷ [] });
    is =
        is_called g inline (roll-Call (record { method = m; target = Some a; args = x ∷ [] }))
        ∙ ap (λ z. called_low g inline (record { method = m; target = Some z; args = low_expr g inline x ∷ [] })) target.is
        ∙ ap (λ z. called_low g inline (record { method = m; target = Some target.low; args = z ∷ [] })) arg.is;
  }

  abbrev pub static_call : (m : ℕ) → KnownCall g inline (roll-Call (record { method = m; target = None; args = [] }))
  static_call m = record {
    low = called_low g inline (record { method = m; target = None; args = [] });
    is = is_called g inline (roll-Call (record { method = m; target = None; args = [] }));
  }

-- statements in order
pub record KnownAll (g : Ground) (inline : Inline) (f : Spots) (ts : List Stmt) : Type 0 where
  pub all : List Laid
  pub is : map (λ t. lay g inline t f) ts ≡ all

-- a value, and then its local is set
abbrev then_set : Ground → Spots → ℕ → Low → Laid
then_set g f i x =
    let y : Lowered = x.low (kind_or (slice_get f.kinds i) Int) f f.base in
    value_then f y (set_to (slice_get f.locals i) y.place)

-- the parts of a block
pub maps : (g : Ground) (inline : Inline) (f : Spots) (ts : List Stmt) → map (λ s. s f) (map (lay g inline) ts) ≡ map (λ t. lay g inline t f) ts
maps g inline f [] = refl
maps g inline f (t ∷ ts) = ap (λ y. lay g inline t f ∷ y) (maps g inline f ts)

module _ {g : Ground} {inline : Inline} {f : Spots} where
  abbrev pub set : (i : ℕ) {a : Expr} → KnownExpr g inline a → KnownStmt g inline f (s.Set i a)
  set i {a} x = record { laid = then_set g f i x.low; is = lay_set g inline i a f ∙ ap (then_set g f i) x.is }

  abbrev pub step : (i : ℕ) (up : Bool) → KnownStmt g inline f (s.StepLocal i up)
  step i up = record { laid = record { steps = step_local g up (slice_get f.locals i); throws = false; returns = false }; is = lay_step_local g inline i up f }

  abbrev pub give : {a : Expr} → KnownExpr g inline a → KnownStmt g inline f (s.Return (Some a))
  give {a} x = record {
    laid = return_value f (x.low.low f.gives f f.base);
    is = lay_return g inline (Some a) f ∙ ap (λ y. return_value f (y.low f.gives f f.base)) x.is;
  }

  abbrev pub loop : {a : Expr} {t : Stmt} → KnownExpr g inline a → KnownStmt g inline f t → KnownStmt g inline f (s.While a t)
  loop {a} {t} x body = record {
    laid = while_low g f (x.low.low Flag f f.base) body.laid;
    is =
        lay_while g inline a t f
        ∙ ap (λ y. while_low g f (y.low Flag f f.base) (lay g inline t f)) x.is
        ∙ ap (while_low g f (x.low.low Flag f f.base)) body.is;
  }

  abbrev pub none : KnownAll g inline f []
  none = record { all = []; is = refl }

  abbrev pub then : {t : Stmt} {ts : List Stmt} → KnownStmt g inline f t → KnownAll g inline f ts → KnownAll g inline f (t ∷ ts)
  then {t} {ts} x rest = record {
    all = x.laid ∷ rest.all;
    is = ap (λ y. y ∷ map (λ t. lay g inline t f) ts) x.is ∙ ap (λ y. x.laid ∷ y) rest.is;
  }

  abbrev pub block : {ts : List Stmt} → KnownAll g inline f ts → KnownStmt g inline f (s.Block ts)
  block {ts} x = record {
    laid = lay_block f false x.all;
    is = block_form g inline ts f ∙ ap (lay_block f false) (maps g inline f ts ∙ x.is);
  }

-- A plain expression evaluates to what it says, in a clause and in code.
use Rattle.std.proofs.Common.{◌≡◌, ℕ, Bool, true, false, ◌<◌, zero, suc, List, [], ◌∷◌, length, map, Some, refl, sym, ap, arith, ◌∙◌, subst}
use borrow.Author.Tests.{ltb-true}
use Rattle.std.specs.Prelude.{◌&&◌, nat_lt, slice_get, unwrap_or}
use Rattle.taco_unit.specs.declared.expr.Op.{Op}
use Rattle.taco_unit.specs.declared.expr.Op.TheVariants as op
use Rattle.taco_unit.specs.declared.expr.Expr.{Expr, ind-Expr, roll-Expr, map-Expr}
use Rattle.taco_unit.specs.declared.expr.Expr.TheOpen.{Expr-F}
use Rattle.taco_unit.specs.declared.expr.Quant.{Quant}
use Rattle.taco_unit.specs.declared.expr.Reach.{Reach}
use Rattle.taco_unit.specs.declared.expr.Call.{Call}
use Rattle.taco_unit.specs.declared.expr.Expr.TheVariants as e
use Rattle.taco_unit.specs.Kinds.{Form, Code as InCode}
use Rattle.heap_core.specs.declared.value.Value.TheVariants.{Flag}
use Rattle.heap_core.specs.Posed.{Posed}
use Rattle.heap_core.specs.Outcomes.{flag}
use Rattle.heap_core.specs.Eval.{Env, eval, binary}
use Rattle.heap_core.specs.Exec.{Run, Frame, Memory, Gives, Code, combined, code}
use Rattle.heap_core.proofs.EvalForms.{eval_flag, eval_local, eval_result, eval_not, eval_bin}
use Rattle.heap_core.proofs.ExecForms.{code_flag, code_local, code_not, code_bin}
use Rattle.boolean_trial.specs.Plain.{is_plain, is_logical, has_result}
use Rattle.boolean_trial.specs.Truth.{truth_of, joined}
use Rattle.boolean_trial.proofs.Forms.{plain_num, plain_null, plain_this, plain_result, plain_local, plain_bound, plain_read, plain_neg, plain_not, plain_bin, plain_quant, plain_old, plain_has, plain_size, plain_new, plain_call, truth_flag, truth_local, truth_result, truth_not, truth_bin}

-- an environment with these arguments, and with this result where it may stand
pub record Sees (args : List Bool) (r : Bool) (form : Form) (env : Env) : Type 0 where
  pub locals : env.locals ≡ map Flag args
  pub result : has_result form ≡ true → env.result ≡ Some (Flag r)

-- the expression evaluates to what it says
pub record Says (a : Expr) : Type 0 where
  pub clause : (args : List Bool) (r : Bool) (form : Form) → is_plain a (length args) form ≡ true → (env : Env) → Sees args r form env → eval a env ≡ flag (truth_of a args r)
  pub code_too : (args : List Bool) (r : Bool) → is_plain a (length args) InCode ≡ true → (p : Posed) (run : Run) (fr : Frame) (m : Memory) → fr.locals ≡ map Flag args
      → code p run a fr m ≡ Gives (Flag (truth_of a args r)) m

-- an expression that is not plain
pub none_said : (a : Expr) → ((n : ℕ) (form : Form) → is_plain a n form ≡ false) → Says a
none_said a never =
    record {
      clause = λ args r form plain env sees. absurd (let no_plain = never (length args) form in cc);
      code_too = λ args r plain p run fr m locals. absurd (let no_plain = never (length args) InCode in cc);
    }

-- the argument of this number, as a value
argument_at : (args : List Bool) (i : ℕ) → i < length args → slice_get (map Flag args) i ≡ Some (Flag (unwrap_or (slice_get args i) false))
argument_at [] i within = absurd (omega arith)
argument_at (b ∷ bs) zero within = refl
argument_at (b ∷ bs) (suc i) within = argument_at bs i (omega arith)

flag_says : (b : Bool) → Says (e.Flag b)
flag_says b =
    record {
      clause = λ args r form plain env sees. eval_flag b env ∙ ap flag (sym (truth_flag b args r));
      code_too = λ args r plain p run fr m locals. code_flag p run b fr m ∙ ap (λ z. Gives (Flag z) m) (sym (truth_flag b args r));
    }

local_says : (i : ℕ) → Says (e.Local i)
local_says i =
    record {
      clause = λ args r form plain env sees.
          let within : nat_lt i (length args) ≡ true = sym (plain_local i (length args) form) ∙ plain in
          rw (eval_local i env, truth_local i args r, sees.locals, argument_at args i (ltb-true i (length args) within)) refl;
      code_too = λ args r plain p run fr m locals.
          let within : nat_lt i (length args) ≡ true = sym (plain_local i (length args) InCode) ∙ plain in
          rw (code_local p run i fr m, truth_local i args r, locals, argument_at args i (ltb-true i (length args) within)) refl;
    }

result_says : Says e.Result
result_says =
    record {
      clause = λ args r form plain env sees.
          let there : has_result form ≡ true = sym (plain_result (length args) form) ∙ plain in
          rw (eval_result env, truth_result args r, sees.result there) refl;
      code_too = λ args r plain p run fr m locals. absurd (let no_plain = plain_result (length args) InCode in cc);
    }

not_says : (a : Expr) → Says a → Says (e.Not a)
not_says a says =
    record {
      clause = λ args r form plain env sees.
          let inner : is_plain a (length args) form ≡ true = sym (plain_not a (length args) form) ∙ plain in
          rw (eval_not a env, truth_not a args r, says.clause args r form inner env sees) refl;
      code_too = λ args r plain p run fr m locals.
          let inner : is_plain a (length args) InCode ≡ true = sym (plain_not a (length args) InCode) ∙ plain in
          rw (code_not p run a fr m, truth_not a args r, says.code_too args r inner p run fr m locals) refl;
    }

-- a logical operator on truth values, in a clause
flags_joined : (form : Form) (o : Op) (w : ℕ) (x y : Bool) → is_logical form o ≡ true → binary o w (flag x) (flag y) ≡ flag (joined o x y)
flags_joined form op.Add w x y no_op = absurd (cc)
flags_joined form op.Sub w x y no_op = absurd (cc)
flags_joined form op.Mul w x y no_op = absurd (cc)
flags_joined form op.Eq w x y is = refl
flags_joined form op.Ne w x y is = refl
flags_joined form op.Lt w x y no_op = absurd (cc)
flags_joined form op.Le w x y no_op = absurd (cc)
flags_joined form op.Gt w x y no_op = absurd (cc)
flags_joined form op.Ge w x y no_op = absurd (cc)
flags_joined form op.And w true y is = refl
flags_joined form op.And w false y is = refl
flags_joined form op.Or w true y is = refl
flags_joined form op.Or w false y is = refl
flags_joined form op.Implies w true y is = refl
flags_joined form op.Implies w false y is = refl
flags_joined form op.Iff w x y is = refl

-- the same in code, where these operators stand
values_joined : (o : Op) (w : ℕ) (a b : Code) (fr : Frame) (m : Memory) (x y : Bool) → is_logical InCode o ≡ true → a fr m ≡ Gives (Flag x) m → b fr m ≡ Gives (Flag y) m
    → combined o w a b fr m ≡ Gives (Flag (joined o x y)) m
values_joined op.Add w a b fr m x y no_op left right = absurd (cc)
values_joined op.Sub w a b fr m x y no_op left right = absurd (cc)
values_joined op.Mul w a b fr m x y no_op left right = absurd (cc)
values_joined op.Eq w a b fr m x y is left right = rw (left, right) refl
values_joined op.Ne w a b fr m x y is left right = rw (left, right) refl
values_joined op.Lt w a b fr m x y no_op left right = absurd (cc)
values_joined op.Le w a b fr m x y no_op left right = absurd (cc)
values_joined op.Gt w a b fr m x y no_op left right = absurd (cc)
values_joined op.Ge w a b fr m x y no_op left right = absurd (cc)
values_joined op.And w a b fr m true y is left right = rw (left, right) refl
values_joined op.And w a b fr m false y is left right = rw left refl
values_joined op.Or w a b fr m true y is left right = rw left refl
values_joined op.Or w a b fr m false y is left right = rw (left, right) refl
values_joined op.Implies w a b fr m x y no_op left right = absurd (cc)
values_joined op.Iff w a b fr m x y no_op left right = absurd (cc)

-- all three tests pass
pub record AllThree (a b c : Bool) : Type 0 where
  pub first : a ≡ true
  pub second : b ≡ true
  pub third : c ≡ true

all_three : (a b c : Bool) → (a && b && c) ≡ true → AllThree a b c
all_three true true true passes = record { first = refl; second = refl; third = refl }
all_three true true false passes = absurd (cc)
all_three true false c passes = absurd (cc)
all_three false b c passes = absurd (cc)

bin_says : (o : Op) (a b : Expr) → Says a → Says b → Says (e.Bin o a b)
bin_says o a b left right =
    record {
      clause = λ args r form plain env sees.
          let parts = all_three (is_logical form o) (is_plain a (length args) form) (is_plain b (length args) form) (sym (plain_bin o a b (length args) form) ∙ plain) in
          rw (eval_bin o a b env, truth_bin o a b args r, left.clause args r form parts.second env sees, right.clause args r form parts.third env sees)
          (flags_joined form o env.ints (truth_of a args r) (truth_of b args r) parts.first);
      code_too = λ args r plain p run fr m locals.
          let parts = all_three (is_logical InCode o) (is_plain a (length args) InCode) (is_plain b (length args) InCode) (sym (plain_bin o a b (length args) InCode) ∙ plain) in
          rw (code_bin p run o a b fr m, truth_bin o a b args r)
          (values_joined o p.scope.ints (code p run a) (code p run b) fr m (truth_of a args r) (truth_of b args r) parts.first (left.code_too args r parts.second p run fr m locals)
          (right.code_too args r parts.third p run fr m locals));
    }

-- one layer
abbrev E : Type 0
E = (a : Expr) × Says a

abbrev C : Type 0
C = (c : Call) × Unit {0}

abbrev Q : Type 0
Q = (q : Quant) × Unit {0}

abbrev R : Type 0
R = (q : Reach) × Unit {0}

layer_says : (y : Expr-F E C Q R) → Says (roll-Expr (map-Expr E C Q R Expr Call Quant Reach (λ a. a.0) (λ c. c.0) (λ q. q.0) (λ q. q.0) y))
layer_says (Expr-F.Num z) = rw (e.rolls-Num z) (none_said (e.Num z) (plain_num z))
layer_says (Expr-F.Flag b) = rw (e.rolls-Flag b) (flag_says b)
layer_says Expr-F.Null = rw e.rolls-Null (none_said e.Null plain_null)
layer_says Expr-F.This = rw e.rolls-This (none_said e.This plain_this)
layer_says Expr-F.Result = rw e.rolls-Result (result_says)
layer_says (Expr-F.Local i) = rw (e.rolls-Local i) (local_says i)
layer_says (Expr-F.Bound i) = rw (e.rolls-Bound i) (none_said (e.Bound i) (plain_bound i))
layer_says (Expr-F.Read a f) = rw (e.rolls-Read a.0 f) (none_said (e.Read a.0 f) (plain_read a.0 f))
layer_says (Expr-F.Neg a) = rw (e.rolls-Neg a.0) (none_said (e.Neg a.0) (plain_neg a.0))
layer_says (Expr-F.Not a) = rw (e.rolls-Not a.0) (not_says a.0 a.1)
layer_says (Expr-F.Bin o a b) = rw (e.rolls-Bin o a.0 b.0) (bin_says o a.0 b.0 a.1 b.1)
layer_says (Expr-F.Quant q) = rw (e.rolls-Quant q.0) (none_said (e.Quant q.0) (plain_quant q.0))
layer_says (Expr-F.Old a) = rw (e.rolls-Old a.0) (none_said (e.Old a.0) (plain_old a.0))
layer_says (Expr-F.Has q a) = rw (e.rolls-Has q.0 a.0) (none_said (e.Has q.0 a.0) (plain_has q.0 a.0))
layer_says (Expr-F.Size q) = rw (e.rolls-Size q.0) (none_said (e.Size q.0) (plain_size q.0))
layer_says (Expr-F.New c) = rw (e.rolls-New c) (none_said (e.New c) (plain_new c))
layer_says (Expr-F.Call c) = rw (e.rolls-Call c.0) (none_said (e.Call c.0) (plain_call c.0))

-- every expression does
pub says : (a : Expr) → Says a
says = ind-Expr Says (λ c. Unit {0}) (λ q. Unit {0}) (λ q. Unit {0}) (λ x y is. subst (λ z. Says (roll-Expr z)) is (layer_says y)) (λ x y is. tt) (λ x y is. tt) (λ x y is. tt)

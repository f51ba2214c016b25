-- One equation for each form: whether it is plain, and what it says.
use Rattle.std.proofs.Common.{◌≡◌, ℕ, Bool, true, false, List, refl}
use Rattle.std.specs.Prelude.{ℤ, ◌&&◌, not, nat_lt, slice_get, unwrap_or}
use Rattle.taco_unit.specs.declared.expr.Op.{Op}
use Rattle.taco_unit.specs.declared.expr.Expr.{Expr, fold_out-Expr}
use Rattle.taco_unit.specs.declared.expr.Quant.{Quant}
use Rattle.taco_unit.specs.declared.expr.Reach.{Reach}
use Rattle.taco_unit.specs.declared.expr.Call.{Call}
use Rattle.taco_unit.specs.declared.expr.Expr.TheVariants as e
use Rattle.taco_unit.specs.Kinds.{Form}
use Rattle.boolean_trial.specs.Plain.{Plainness, plain_step, is_plain, is_logical, has_result}
use Rattle.boolean_trial.specs.Truth.{Saying, truth_step, truth_of, joined}

pub plain_num : (z : ℤ) (n : ℕ) (form : Form) → is_plain (e.Num z) n form ≡ false
plain_num z n form = rw (fold_out-Expr Plainness (Unit {0}) (Unit {0}) (Unit {0}) plain_step (λ c. tt) (λ q. tt) (λ r. tt) (e.Num z), e.outs-Num z) refl

pub plain_flag : (b : Bool) (n : ℕ) (form : Form) → is_plain (e.Flag b) n form ≡ true
plain_flag b n form = rw (fold_out-Expr Plainness (Unit {0}) (Unit {0}) (Unit {0}) plain_step (λ c. tt) (λ q. tt) (λ r. tt) (e.Flag b), e.outs-Flag b) refl

pub plain_null : (n : ℕ) (form : Form) → is_plain e.Null n form ≡ false
plain_null n form = rw (fold_out-Expr Plainness (Unit {0}) (Unit {0}) (Unit {0}) plain_step (λ c. tt) (λ q. tt) (λ r. tt) e.Null, e.outs-Null) refl

pub plain_this : (n : ℕ) (form : Form) → is_plain e.This n form ≡ false
plain_this n form = rw (fold_out-Expr Plainness (Unit {0}) (Unit {0}) (Unit {0}) plain_step (λ c. tt) (λ q. tt) (λ r. tt) e.This, e.outs-This) refl

pub plain_result : (n : ℕ) (form : Form) → is_plain e.Result n form ≡ has_result form
plain_result n form = rw (fold_out-Expr Plainness (Unit {0}) (Unit {0}) (Unit {0}) plain_step (λ c. tt) (λ q. tt) (λ r. tt) e.Result, e.outs-Result) refl

pub plain_local : (i : ℕ) (n : ℕ) (form : Form) → is_plain (e.Local i) n form ≡ nat_lt i n
plain_local i n form = rw (fold_out-Expr Plainness (Unit {0}) (Unit {0}) (Unit {0}) plain_step (λ c. tt) (λ q. tt) (λ r. tt) (e.Local i), e.outs-Local i) refl

pub plain_bound : (i : ℕ) (n : ℕ) (form : Form) → is_plain (e.Bound i) n form ≡ false
plain_bound i n form = rw (fold_out-Expr Plainness (Unit {0}) (Unit {0}) (Unit {0}) plain_step (λ c. tt) (λ q. tt) (λ r. tt) (e.Bound i), e.outs-Bound i) refl

pub plain_read : (a : Expr) (f : ℕ) (n : ℕ) (form : Form) → is_plain (e.Read a f) n form ≡ false
plain_read a f n form = rw (fold_out-Expr Plainness (Unit {0}) (Unit {0}) (Unit {0}) plain_step (λ c. tt) (λ q. tt) (λ r. tt) (e.Read a f), e.outs-Read a f) refl

pub plain_neg : (a : Expr) (n : ℕ) (form : Form) → is_plain (e.Neg a) n form ≡ false
plain_neg a n form = rw (fold_out-Expr Plainness (Unit {0}) (Unit {0}) (Unit {0}) plain_step (λ c. tt) (λ q. tt) (λ r. tt) (e.Neg a), e.outs-Neg a) refl

pub plain_not : (a : Expr) (n : ℕ) (form : Form) → is_plain (e.Not a) n form ≡ is_plain a n form
plain_not a n form = rw (fold_out-Expr Plainness (Unit {0}) (Unit {0}) (Unit {0}) plain_step (λ c. tt) (λ q. tt) (λ r. tt) (e.Not a), e.outs-Not a) refl

pub plain_bin : (o : Op) (a b : Expr) (n : ℕ) (form : Form) → is_plain (e.Bin o a b) n form ≡ is_logical form o && is_plain a n form && is_plain b n form
plain_bin o a b n form = rw (fold_out-Expr Plainness (Unit {0}) (Unit {0}) (Unit {0}) plain_step (λ c. tt) (λ q. tt) (λ r. tt) (e.Bin o a b), e.outs-Bin o a b) refl

pub plain_quant : (q : Quant) (n : ℕ) (form : Form) → is_plain (e.Quant q) n form ≡ false
plain_quant q n form = rw (fold_out-Expr Plainness (Unit {0}) (Unit {0}) (Unit {0}) plain_step (λ c. tt) (λ q. tt) (λ r. tt) (e.Quant q), e.outs-Quant q) refl

pub plain_old : (a : Expr) (n : ℕ) (form : Form) → is_plain (e.Old a) n form ≡ false
plain_old a n form = rw (fold_out-Expr Plainness (Unit {0}) (Unit {0}) (Unit {0}) plain_step (λ c. tt) (λ q. tt) (λ r. tt) (e.Old a), e.outs-Old a) refl

pub plain_has : (q : Reach) (a : Expr) (n : ℕ) (form : Form) → is_plain (e.Has q a) n form ≡ false
plain_has q a n form = rw (fold_out-Expr Plainness (Unit {0}) (Unit {0}) (Unit {0}) plain_step (λ c. tt) (λ q. tt) (λ r. tt) (e.Has q a), e.outs-Has q a) refl

pub plain_size : (q : Reach) (n : ℕ) (form : Form) → is_plain (e.Size q) n form ≡ false
plain_size q n form = rw (fold_out-Expr Plainness (Unit {0}) (Unit {0}) (Unit {0}) plain_step (λ c. tt) (λ q. tt) (λ r. tt) (e.Size q), e.outs-Size q) refl

pub plain_new : (c : ℕ) (n : ℕ) (form : Form) → is_plain (e.New c) n form ≡ false
plain_new c n form = rw (fold_out-Expr Plainness (Unit {0}) (Unit {0}) (Unit {0}) plain_step (λ c. tt) (λ q. tt) (λ r. tt) (e.New c), e.outs-New c) refl

pub plain_call : (c : Call) (n : ℕ) (form : Form) → is_plain (e.Call c) n form ≡ false
plain_call c n form = rw (fold_out-Expr Plainness (Unit {0}) (Unit {0}) (Unit {0}) plain_step (λ c. tt) (λ q. tt) (λ r. tt) (e.Call c), e.outs-Call c) refl

pub truth_flag : (b : Bool) (args : List Bool) (r : Bool) → truth_of (e.Flag b) args r ≡ b
truth_flag b args r = rw (fold_out-Expr Saying (Unit {0}) (Unit {0}) (Unit {0}) truth_step (λ c. tt) (λ q. tt) (λ r. tt) (e.Flag b), e.outs-Flag b) refl

pub truth_result : (args : List Bool) (r : Bool) → truth_of e.Result args r ≡ r
truth_result args r = rw (fold_out-Expr Saying (Unit {0}) (Unit {0}) (Unit {0}) truth_step (λ c. tt) (λ q. tt) (λ r. tt) e.Result, e.outs-Result) refl

pub truth_local : (i : ℕ) (args : List Bool) (r : Bool) → truth_of (e.Local i) args r ≡ unwrap_or (slice_get args i) false
truth_local i args r = rw (fold_out-Expr Saying (Unit {0}) (Unit {0}) (Unit {0}) truth_step (λ c. tt) (λ q. tt) (λ r. tt) (e.Local i), e.outs-Local i) refl

pub truth_not : (a : Expr) (args : List Bool) (r : Bool) → truth_of (e.Not a) args r ≡ not (truth_of a args r)
truth_not a args r = rw (fold_out-Expr Saying (Unit {0}) (Unit {0}) (Unit {0}) truth_step (λ c. tt) (λ q. tt) (λ r. tt) (e.Not a), e.outs-Not a) refl

pub truth_bin : (o : Op) (a b : Expr) (args : List Bool) (r : Bool) → truth_of (e.Bin o a b) args r ≡ joined o (truth_of a args r) (truth_of b args r)
truth_bin o a b args r = rw (fold_out-Expr Saying (Unit {0}) (Unit {0}) (Unit {0}) truth_step (λ c. tt) (λ q. tt) (λ r. tt) (e.Bin o a b), e.outs-Bin o a b) refl

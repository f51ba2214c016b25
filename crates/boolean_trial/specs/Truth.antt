-- What plain expressions say.
use Rattle.std.specs.Prelude.{◌&&◌, ◌||◌, not, Bool, false, List, slice_get, unwrap_or}
use Rattle.taco_unit.specs.declared.expr.Op.{Op}
use Rattle.taco_unit.specs.declared.expr.Op.TheVariants as op
use Rattle.taco_unit.specs.declared.expr.Expr.{Expr, fold-Expr}
use Rattle.taco_unit.specs.declared.expr.Expr.TheOpen.{Expr-F}
use Rattle.heap_core.specs.Outcomes.{same_flag}

-- what a logical operator makes of two truth values
abbrev pub joined : Op → Bool → Bool → Bool
joined op.Eq a b = same_flag a b
joined op.Ne a b = not (same_flag a b)
joined op.And a b = a && b
joined op.Or a b = a || b
joined op.Implies a b = not a || b
joined op.Iff a b = same_flag a b
joined _ a b = false

-- under these arguments and this result
abbrev pub Saying : Type 0
Saying = List Bool → Bool → Bool

abbrev pub truth_step : Expr-F Saying (Unit {0}) (Unit {0}) (Unit {0}) → Saying
truth_step (Expr-F.Flag b) args result = b
truth_step (Expr-F.Local i) args result = unwrap_or (slice_get args i) false
truth_step Expr-F.Result args result = result
truth_step (Expr-F.Not a) args result = not (a args result)
truth_step (Expr-F.Bin o a b) args result = joined o (a args result) (b args result)
truth_step _ args result = false

-- the truth value of a plain expression
abbrev pub truth_of : Expr → Saying
truth_of = fold-Expr Saying (Unit {0}) (Unit {0}) (Unit {0}) truth_step (λ c. tt) (λ q. tt) (λ r. tt)

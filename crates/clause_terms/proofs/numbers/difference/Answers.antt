use Rattle.std.proofs.Common.{refl}
use Rattle.std.specs.Prelude.{◌-ℤ◌}
use Rattle.taco_unit.specs.declared.expr.Op.TheVariants as o
use Rattle.clause_terms.proofs.NumberTerms.{told_arithmetic}
use Rattle.clause_terms.proofs.numbers.difference.Goals as goal

pub returns-clause-told : goal.returns-clause-told
returns-clause-told c m v u a b = told_arithmetic m o.Sub (λ z w. z -ℤ w) c.args.x c.args.y c.in_ok-made.made _ v u (λ z w. refl) (c.in_ok-made.ensures.meaning m) (c.in_ok-term.ensures.told m) a b

pub returns-clause-sorted : goal.returns-clause-sorted
returns-clause-sorted c p kinds x y = c.in_ok-term.ensures.sorted p kinds (c.in_ok-made.ensures.sorted p kinds x y)

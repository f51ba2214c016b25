use Rattle.std.proofs.Common.{false, refl, ◌∙◌}
use Rattle.std.specs.Ordering.{int_eq}
use Rattle.taco_unit.specs.declared.expr.Op.TheVariants as o
use Rattle.clause_terms.proofs.NumberTerms.{told_comparison, both_given}
use Rattle.clause_terms.proofs.numbers.equal.Goals as goal

pub returns-clause-told : goal.returns-clause-told
returns-clause-told c m v u a b = told_comparison m o.Eq int_eq c.args.x c.args.y c.in_ok-same.same _ v u (λ z w. refl)
    (λ z w l r. c.in_ok-same.ensures.meaning m ∙ both_given m c.args.x c.args.y z w int_eq false l r) (c.in_ok-term.ensures.told m) a b

pub returns-clause-sorted : goal.returns-clause-sorted
returns-clause-sorted c p kinds x y = c.in_ok-term.ensures.sorted p kinds (c.in_ok-same.ensures.sorted p kinds x y)

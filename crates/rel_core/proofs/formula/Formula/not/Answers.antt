use Rattle.std.proofs.Common.{◌≡◌, not, ap, ◌∙◌}
use Rattle.rel_core.specs.declared.formula.Formula.{Formula}
use Rattle.rel_core.specs.Meaning.{holds}
use Rattle.rel_core.specs.Uses.{is_sorted}
use Rattle.rel_core.proofs.formula.Formula.not.Goals as goal

pub returns-in_ok-opposite-in-Const-clause-sorted : goal.returns-in_ok-opposite-in-Const-clause-sorted
returns-in_ok-opposite-in-Const-clause-sorted c = λ p kinds operand. c.in_ok-opposite-in-Const.ensures.sorted p kinds

pub returns-in_ok-opposite-in_default : goal.returns-in_ok-opposite-in_default
returns-in_ok-opposite-in_default c =
    let same : c.in_ok-operand-in_default.operand ≡ c.args.operand = c.in_ok-operand-in_default.ensures ∙ c.into_inner.ensures in
    record {
      meaning = λ m. c.in_ok-opposite-in_default.ensures.meaning m ∙ ap (λ (f : Formula). not (holds f m)) same;
      sorted = λ p kinds operand. c.in_ok-opposite-in_default.ensures.sorted p kinds (ap (is_sorted p kinds) same ∙ operand);
    }

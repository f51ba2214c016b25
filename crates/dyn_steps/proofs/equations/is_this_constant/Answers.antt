use Rattle.std.proofs.Common.{◌≡◌, true, subst}
use Rattle.rel_core.specs.Uses.{is_variable, use_of_kind}
use Rattle.dyn_steps.proofs.Combining.{number_kind}
use Rattle.dyn_steps.proofs.equations.is_this_constant.Goals as goal

pub returns-in_ok-same-in-Num-clause-sorted : goal.returns-in_ok-same-in-Num-clause-sorted
returns-in_ok-same-in-Num-clause-sorted c = λ p kinds k takes used.
    c.in_ok-same-in-Num.ensures.sorted p kinds (subst (λ j. is_variable p kinds (use_of_kind j) c.args.variable ≡ true) (number_kind c.args.value c.in-Num.number k c.in-Num.is takes) used)
    (c.in_ok-number-in-Num.ensures.sorted p kinds)

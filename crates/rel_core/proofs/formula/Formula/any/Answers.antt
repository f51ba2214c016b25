use Rattle.std.proofs.Common.{true, false, not, sym, ap, ◌∙◌}
use Rattle.std.specs.List.{list_all}
use Rattle.rel_core.specs.declared.formula.Formula.{Formula}
use Rattle.rel_core.specs.Meaning.{holds}
use Rattle.rel_core.specs.Uses.{is_sorted}
use Rattle.rel_core.proofs.Forms.{holds_const, sorted_const}
use Rattle.rel_core.proofs.Joining.{any_same, any_there}
use Rattle.rel_core.proofs.formula.Formula.any.Goals as goal

pub returns-in_ok-always-clause-meaning : goal.returns-in_ok-always-clause-meaning
returns-in_ok-always-clause-meaning c = λ m.
    let kept = c.in_ok-open.ensures (λ a. not (holds a m)) (ap not (holds_const false m)) in
    let none = c.has_constant.ensures (λ a. not (holds a m)) (ap not (holds_const true m)) c.if-has_constant.true in
    c.in_ok-always.ensures.meaning m ∙ sym (any_there (λ a. holds a m) c.args.parts (sym kept ∙ ap (list_all (λ (a : Formula). not (holds a m))) (sym c.as_slice.ensures) ∙ none))

pub returns-in_ok-always-clause-sorted : goal.returns-in_ok-always-clause-sorted
returns-in_ok-always-clause-sorted c = λ p kinds parts. c.in_ok-always.ensures.sorted p kinds

pub returns-in_ok-some-clause-meaning : goal.returns-in_ok-some-clause-meaning
returns-in_ok-some-clause-meaning c = λ m.
    c.in_ok-some.ensures.meaning m ∙ any_same (λ a. holds a m) c.in_ok-open.open c.args.parts (c.in_ok-open.ensures (λ a. not (holds a m)) (ap not (holds_const false m)))

pub returns-in_ok-some-clause-sorted : goal.returns-in_ok-some-clause-sorted
returns-in_ok-some-clause-sorted c = λ p kinds parts. c.in_ok-some.ensures.sorted p kinds (c.in_ok-open.ensures (is_sorted p kinds) (sorted_const p kinds false) ∙ parts)

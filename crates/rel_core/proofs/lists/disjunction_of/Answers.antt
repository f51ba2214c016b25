use Rattle.std.proofs.Common.{sym, ap, ◌∙◌}
use Rattle.std.specs.List.{list_all}
use Rattle.rel_core.specs.Uses.{is_sorted}
use Rattle.rel_core.proofs.Joining.{sorted_disjunction}
use Rattle.rel_core.proofs.lists.disjunction_of.Goals as goal

pub returns-in_ok-constant-in-None-clause-sorted : goal.returns-in_ok-constant-in-None-clause-sorted
returns-in_ok-constant-in-None-clause-sorted c = λ p kinds parts. c.in_ok-constant-in-None.ensures.sorted p kinds

pub returns-in_ok-new-in-Some-2-clause-sorted : goal.returns-in_ok-new-in-Some-2-clause-sorted
returns-in_ok-new-in-Some-2-clause-sorted c = λ p kinds parts.
    ap (is_sorted p kinds) c.in_ok-new-in-Some-2.ensures
    ∙ sorted_disjunction p kinds c.push.new.self (ap (list_all (is_sorted p kinds)) (c.in_ok-push-in-Some.ensures.ok ∙ sym c.in-Some.ensures) ∙ parts)

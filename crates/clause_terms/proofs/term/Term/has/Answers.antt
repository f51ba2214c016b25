use Rattle.heap_core.specs.Eval.{has}
use Rattle.heap_core.specs.Outcomes.{with_value}
use Rattle.clause_terms.specs.Terms.{HasValue, Tells}
use Rattle.clause_terms.proofs.Outcomes.{on_value}
use Rattle.clause_terms.proofs.term.Term.has.Goals as goal

pub returns-clause-told : goal.returns-clause-told
returns-clause-told c m env fields x y alike one two = c.in_ok-term.ensures.told m x (λ v. with_value y (has env fields v)) one.fine one.inside
    (on_value x (HasValue m c.args.root.value) (λ v. Tells (with_value y (has env fields v)) c.in_ok-then.then m)
    (λ v given. c.in_ok-then.ensures.told m y (has env fields v) two.fine two.inside
    (on_value y (HasValue m c.args.member.value) (λ u. Tells (has env fields v u) c.in_ok-made.made m) (λ u other. c.in_ok-made.ensures.told m env fields v u alike given other)
    two.value)) one.value)

pub returns-clause-sorted : goal.returns-clause-sorted
returns-clause-sorted c p kinds root relations member = c.in_ok-term.ensures.sorted p kinds root.fine root.inside
    (c.in_ok-then.ensures.sorted p kinds member.fine member.inside (c.in_ok-made.ensures.sorted p kinds root.value relations member.value))

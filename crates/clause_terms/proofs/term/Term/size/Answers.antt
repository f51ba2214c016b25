use Rattle.heap_core.specs.Eval.{size}
use Rattle.clause_terms.specs.Terms.{HasValue, Tells}
use Rattle.clause_terms.proofs.Outcomes.{on_value}
use Rattle.clause_terms.proofs.term.Term.size.Goals as goal

pub returns-clause-told : goal.returns-clause-told
returns-clause-told c m env fields x alike one = c.in_ok-term.ensures.told m x (size env fields) one.fine one.inside
    (on_value x (HasValue m c.args.root.value) (λ v. Tells (size env fields v) c.in_ok-then.then m) (λ v given. c.in_ok-then.ensures.told m env fields v alike given) one.value)

pub returns-clause-sorted : goal.returns-clause-sorted
returns-clause-sorted c p kinds root relations = c.in_ok-term.ensures.sorted p kinds root.fine root.inside (c.in_ok-then.ensures.sorted p kinds root.value relations)

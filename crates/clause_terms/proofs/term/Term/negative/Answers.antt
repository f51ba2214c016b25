use Rattle.heap_core.specs.Outcomes.{negative}
use Rattle.clause_terms.specs.Terms.{HasValue, Tells}
use Rattle.clause_terms.proofs.Outcomes.{on_value}
use Rattle.clause_terms.proofs.term.Term.negative.Goals as goal

pub returns-clause-told : goal.returns-clause-told
returns-clause-told c m x told = c.in_ok-term.ensures.told m x (negative m.ints) told.fine told.inside
    (on_value x (HasValue m c.args.operand.value) (λ v. Tells (negative m.ints v) c.in_ok-then.then m) (c.in_ok-then.ensures.told m) told.value)

use Rattle.heap_core.specs.Heap.{field}
use Rattle.clause_terms.specs.Terms.{HasValue, Tells}
use Rattle.clause_terms.proofs.Outcomes.{on_value}
use Rattle.clause_terms.proofs.term.Term.read.Goals as goal

pub returns-clause-told : goal.returns-clause-told
returns-clause-told c u m heap x shown told = c.in_ok-read.ensures.told m x (field u.classes heap c.args.field) told.fine told.inside
    (on_value x (HasValue m c.args.object.value) (λ v. Tells (field u.classes heap c.args.field v) c.in_ok-then.then m) (λ v has. c.in_ok-then.ensures.told u m heap v shown has) told.value)

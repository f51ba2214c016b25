use Rattle.heap_core.specs.Heap.{field}
use Rattle.clause_terms.specs.Terms.{HasValue, Tells}
use Rattle.clause_terms.proofs.Outcomes.{on_value}
use Rattle.clause_terms.proofs.term.Term.read_lacking.Goals as goal

pub returns-clause-told : goal.returns-clause-told
returns-clause-told c classes m heap f x lacks told = c.in_ok-read.ensures.told m x (field classes heap f) told.fine told.inside
    (on_value x (HasValue m c.args.object.value) (λ v. Tells (field classes heap f v) c.in_ok-then.then m) (λ v has. c.in_ok-then.ensures.told classes m heap f v lacks has) told.value)

pub returns-clause-sorted : goal.returns-clause-sorted
returns-clause-sorted c p kinds object = c.in_ok-read.ensures.sorted p kinds object.fine object.inside (c.in_ok-then.ensures.sorted p kinds object.value)

use Rattle.std.proofs.Common.{subst}
use Rattle.heap_core.specs.Outcomes.{with_value, opposite}
use Rattle.clause_terms.specs.Terms.{Tells}
use Rattle.clause_terms.proofs.Settled.{opposite_settled}
use Rattle.clause_terms.proofs.term.Term.opposite.Goals as goal

pub returns-clause-told : goal.returns-clause-told
returns-clause-told c m x told = subst (λ s. Tells s c.term.result m) (opposite_settled x)
    (c.term.ensures.told m (with_value x opposite) (c.in_ok-turned.ensures.told m x (c.in_ok-truth.ensures.told m x told)))

pub returns-clause-sorted : goal.returns-clause-sorted
returns-clause-sorted c p kinds operand = c.term.ensures.sorted p kinds (c.in_ok-turned.ensures.sorted p kinds (c.in_ok-truth.ensures.sorted p kinds operand))

use Rattle.std.proofs.Common.{sym, subst}
use Rattle.rel_core.specs.Meaning.{set_of}
use Rattle.clause_terms.specs.Terms.{IsOnly}
use Rattle.clause_terms.proofs.term.Term.reference.Goals as goal

pub returns-clause-told : goal.returns-clause-told
returns-clause-told c m v only = c.in_ok-term.ensures.told m v (subst (λ e. IsOnly m (set_of e m) v) (sym c.in_ok-copied.ensures.same) only)

pub returns-clause-sorted : goal.returns-clause-sorted
returns-clause-sorted c p kinds set = c.in_ok-term.ensures.sorted p kinds (c.in_ok-copied.ensures.sorted p kinds set)

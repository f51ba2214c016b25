use Rattle.std.proofs.Common.{refl, ap, ◌∙◌}
use Rattle.heap_core.specs.declared.value.Value.TheVariants.{Null}
use Rattle.clause_terms.proofs.FieldTerms.{null_exact}
use Rattle.clause_terms.proofs.term.Term.null.Goals as goal

pub returns-clause-told : goal.returns-clause-told
returns-clause-told c m = c.in_ok-term.ensures.told m Null (record { reference = refl; exact = λ u. ap (λ s. s u) (c.in_ok-set.ensures.meaning m) ∙ null_exact u })

pub returns-clause-sorted : goal.returns-clause-sorted
returns-clause-sorted c p kinds = c.in_ok-term.ensures.sorted p kinds (c.in_ok-set.ensures.sorted p kinds)

use Rattle.std.proofs.Common.{ap, ◌∙◌}
use Rattle.heap_core.specs.declared.value.Value.TheVariants.{Obj}
use Rattle.clause_terms.proofs.FieldTerms.{object_exact}
use Rattle.clause_terms.proofs.term.Term.object.Goals as goal

pub returns-clause-told : goal.returns-clause-told
returns-clause-told c m below = c.in_ok-term.ensures.told m (Obj c.args.object)
    (record { reference = below; exact = λ u. ap (λ s. s u) (c.in_ok-set.ensures.meaning m) ∙ object_exact c.args.object u })

pub returns-clause-sorted : goal.returns-clause-sorted
returns-clause-sorted c p kinds below = c.in_ok-term.ensures.sorted p kinds (c.in_ok-set.ensures.sorted p kinds below)

use Rattle.dyn_steps.proofs.equations.references_at.Goals as goal

pub returns-clause-sorted : goal.returns-clause-sorted
returns-clause-sorted c = λ p kinds a b. c.in_ok-references.ensures.sorted p kinds (c.in_ok-object.ensures.sorted p kinds a) b

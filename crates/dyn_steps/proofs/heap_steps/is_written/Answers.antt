use Rattle.dyn_steps.proofs.heap_steps.is_written.Goals as goal

pub returns-clause-sorted : goal.returns-clause-sorted
returns-clause-sorted c = λ p kinds object change. c.in_ok-changed.ensures.sorted p kinds (c.in_ok-object.ensures.sorted p kinds object) change
